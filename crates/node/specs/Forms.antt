-- Tables of decision diagrams: links, and what is asked of a table before it may be walked.
--
-- A table has the value count of each feature (ds), its records (rs) and a start link. A link is 0 for false, 1 for true,
-- and r + 2 for record r, counted from 0.
use Rattle.std.specs.Prelude.{ℕ, ◌+◌, ◌<◌, ◌≤◌, cond, List, length, Some, None, Option, ◌==◌, slice_index, slice_index_or}
use Rattle.book.specs.Books.{Book}

-- the link l leads to a record
abbrev pub Inside : {N : Type 0} → List N → ℕ → Type 0
Inside rs l = (2 ≤ l) × (l < length rs + 2)

-- the place that a link is, or none for false
abbrev pub place_of_link : ℕ → Option ℕ
place_of_link l = cond (l == 0) None (Some l)

-- what one form of diagram asks of its records and of its start link
pub record Form (N : Type 0) : Type 1 where
  -- what stands for a record past the end of a table
  pub blank : N
  -- what the record tests exists
  pub exists : List ℕ → N → Type 0
  -- both links of the record are allowed
  pub linked : List ℕ → List N → N → Type 0
  -- the start link is allowed
  pub starts : List N → ℕ → Type 0

-- 1 to 24 features
abbrev pub FewFeatures : List ℕ → Type 0
FewFeatures ds = (1 ≤ length ds) × (length ds ≤ 24)

-- 1 to 16 values
abbrev pub FewValues : ℕ → Type 0
FewValues d = (1 ≤ d) × (d ≤ 16)

-- Everything that is asked of a table holds.
abbrev pub Well : {N : Type 0} → Form N → List ℕ → List N → ℕ → Type 0
Well form ds rs start =
    FewFeatures ds
    × ((i : ℕ) → i < length ds → FewValues (slice_index ds i))
    × (length rs ≤ 2046)
    × ((r : ℕ) → r < length rs → form.exists ds (slice_index_or rs r form.blank) × form.linked ds rs (slice_index_or rs r form.blank))
    × form.starts rs start

-- the rule book of a table of a form whose steps these are: from value counts, records, feature, place and value
abbrev pub book_of : {N : Type 0} → (List ℕ → List N → ℕ → ℕ → ℕ → Option ℕ) → List ℕ → List N → ℕ → Book
book_of step ds rs start = record {
  features = length ds;
  values = λ i. slice_index ds i;
  places = length rs + 2;
  start = place_of_link start;
  step = step ds rs;
}
