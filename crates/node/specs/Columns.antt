-- The column diagram: what it permits, what is asked of its table, and the rule book that it is.
use Rattle.std.specs.Prelude.{◌≡◌, ℕ, zero, suc, ◌+◌, ◌-◌, ◌<◌, ◌≤◌, cond, List, [], ◌∷◌, length, Some, None, Option, ◌==◌, ◌≢◌, nat_lt, slice_index, slice_index_or}
use Rattle.book.specs.Books.{Book}
use Rattle.diagram.specs.declared.ColumnNode.{ColumnNode}
use Rattle.node.specs.Forms.{Form, Inside, book_of}

abbrev pub blank : ColumnNode
blank = record { column = 0; value = 0; high = 0; low = 0 }

-- the record that a link of 2 and more leads to
abbrev pub behind : List ColumnNode → ℕ → ColumnNode
behind rs l = slice_index_or rs (l - 2) blank

-- The values lead from a link to 1, one a column in order: at a record with the column's value by its high link, which
-- takes the value up, and otherwise by its low link.
pub data Reads (rs : List ColumnNode) : ℕ → List ℕ → Type 0 where
  done : Reads rs 1 []
  chosen : {l x : ℕ} {xs : List ℕ} → Inside rs l → (behind rs l).value ≡ x → Reads rs (behind rs l).high xs → Reads rs l (x ∷ xs)
  passed : {l x : ℕ} {xs : List ℕ} → Inside rs l → ((behind rs l).value ≢ x) → Reads rs (behind rs l).low (x ∷ xs) → Reads rs l (x ∷ xs)

-- the link l leads to a record of column k
abbrev pub LeadsTo : List ColumnNode → ℕ → ℕ → Type 0
LeadsTo rs k l = Inside rs l × ((behind rs l).column ≡ k)

-- high leads to a record of the next column, or to 1 in the last column
abbrev pub HighAllowed : List ℕ → List ColumnNode → ColumnNode → Type 0
HighAllowed ds rs r =
    (r.column + 1 < length ds → LeadsTo rs (r.column + 1) r.high) × (length ds ≤ r.column + 1 → r.high ≡ 1)

-- low is 0, or leads to a record of the same column with a greater value
abbrev pub LowAllowed : List ColumnNode → ColumnNode → Type 0
LowAllowed rs r = 1 ≤ r.low → LeadsTo rs r.column r.low × (r.value < (behind rs r.low).value)

abbrev pub column_form : Form ColumnNode
column_form = record {
  blank = blank;
  exists = λ ds r. (r.column < length ds) × (r.value < slice_index ds r.column);
  linked = λ ds rs r. HighAllowed ds rs r × LowAllowed rs r;
  -- the start is 0, or leads to a record of column 0
  starts = λ rs start. 1 ≤ start → LeadsTo rs 0 start;
}

-- the high link of the record with the value v, on the chain of low links from l; the chain has k records at most
abbrev pub chain : List ColumnNode → ℕ → ℕ → ℕ → Option ℕ
chain rs zero l v = None
chain rs (suc k) l v =
    cond (l == 0) None (cond ((behind rs l).value == v) (Some (behind rs l).high) (chain rs k (behind rs l).low v))

-- a step from a place: none from 0, from 1 and from a record of another column
abbrev pub column_step : List ℕ → List ColumnNode → ℕ → ℕ → ℕ → Option ℕ
column_step ds rs f p v =
    cond (nat_lt p 2) None (cond (nat_lt (p - 2) (length rs)) (cond ((behind rs p).column == f) (chain rs (slice_index ds f) p v) None) None)

abbrev pub column_book : List ℕ → List ColumnNode → ℕ → Book
column_book = book_of column_step
