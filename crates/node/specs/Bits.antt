-- The bit diagram: what it permits, what is asked of its table, and the rule book that it is.
use Rattle.std.specs.Prelude.{◌≡◌, ℕ, zero, suc, ◌+◌, ◌-◌, ◌/◌, ◌%◌, ◌^◌, ◌<◌, ◌≤◌, Bool, cond, ◌&&◌, ◌||◌, List, [], ◌∷◌, length, take, None, Option, ◌==◌, ◌≢◌, nat_le, nat_lt, slice_index, slice_index_or}
use Rattle.book.specs.Books.{Book}
use Rattle.diagram.specs.declared.BitNode.{BitNode}
use Rattle.node.specs.Forms.{Form, Inside, place_of_link, book_of}

-- k is the fewest bits that tell d values apart
pub record Fewest (d k : ℕ) : Type 0 where
  pub enough : d ≤ 2 ^ k
  pub least : (j : ℕ) → d ≤ 2 ^ j → k ≤ j

-- the fewest bits for 1 to 16 values
abbrev pub width_of : ℕ → ℕ
width_of d = cond (nat_le d 1) 0 (cond (nat_le d 2) 1 (cond (nat_le d 4) 2 (cond (nat_le d 8) 3 4)))

-- the bits of all features
abbrev pub widths : List ℕ → ℕ
widths [] = 0
widths (d ∷ ds) = width_of d + widths ds

-- the number of the first bit of feature f: bits are numbered through all features in order
abbrev pub base_of : List ℕ → ℕ → ℕ
base_of ds f = widths (take f ds)

-- the bit of weight 2 ^ j
abbrev pub digit : ℕ → ℕ → ℕ
digit v j = v / 2 ^ j % 2

-- the bit of number b in a full set
abbrev pub bit_of : List ℕ → List ℕ → ℕ → ℕ
bit_of [] xs b = 0
bit_of (d ∷ ds) [] b = 0
bit_of (d ∷ ds) (x ∷ xs) b = cond (nat_lt b (width_of d)) (digit x b) (bit_of ds xs (b - width_of d))

abbrev pub blank : BitNode
blank = record { bit = 0; low = 0; high = 0 }

-- the record that a link of 2 and more leads to
abbrev pub behind : List BitNode → ℕ → BitNode
behind rs l = slice_index_or rs (l - 2) blank

-- Following the bits from a link reaches 1: at a record by the high link where its bit is 1, and by the low link where it
-- is not. Bits that no record on the way tests are free.
pub data Reaches (rs : List BitNode) (bits : ℕ → ℕ) : ℕ → Type 0 where
  done : Reaches rs bits 1
  raised : {l : ℕ} → Inside rs l → bits (behind rs l).bit ≡ 1 → Reaches rs bits (behind rs l).high → Reaches rs bits l
  lowered : {l : ℕ} → Inside rs l → (bits (behind rs l).bit ≢ 1) → Reaches rs bits (behind rs l).low → Reaches rs bits l

-- the link l is 0 or 1, or leads to a record whose bit is b or a later one
abbrev pub Comes : List BitNode → ℕ → ℕ → Type 0
Comes rs b l = 2 ≤ l → (l < length rs + 2) × (b ≤ (behind rs l).bit)

-- every link of the record exists, and where it leads to a record, that has a greater bit
abbrev pub LinksAllowed : List BitNode → BitNode → Type 0
LinksAllowed rs r = Comes rs (r.bit + 1) r.low × Comes rs (r.bit + 1) r.high

abbrev pub bit_form : Form BitNode
bit_form = record {
  blank = blank;
  exists = λ ds r. r.bit < widths ds;
  linked = λ ds rs r. LinksAllowed rs r;
  -- the start is any existing link
  starts = λ rs start. start < length rs + 2;
}

-- the links of all records are allowed
abbrev pub Ordered : List BitNode → Type 0
Ordered rs = (r : ℕ) → r < length rs → LinksAllowed rs (slice_index_or rs r blank)

-- the link that a record's bit picks
abbrev pub picked : BitNode → ℕ → ℕ
picked r b = cond (b == 1) r.high r.low

-- where the bits from base to before end lead from l, bit base + j being that of weight 2 ^ j in v; at most k are tested
abbrev pub followed : List BitNode → ℕ → ℕ → ℕ → ℕ → ℕ → ℕ
followed rs base end v zero l = l
followed rs base end v (suc k) l =
    cond (nat_lt l 2) l (cond (nat_lt (behind rs l).bit end) (followed rs base end v k (picked (behind rs l) (digit v ((behind rs l).bit - base)))) l)

abbrev pub follow : List BitNode → ℕ → ℕ → ℕ → ℕ → ℕ
follow rs base end v l = followed rs base end v (end - base) l

-- a walk may stand at the link l before bit b: it is 1, or a record of no earlier bit
abbrev pub opens : List BitNode → ℕ → ℕ → Bool
opens rs b l = nat_lt 0 l && (nat_lt l 2 || (nat_lt l (length rs + 2) && nat_le b (behind rs l).bit))

-- a step from a place follows the feature's bits: none from 0, from a record of an earlier feature, and to 0
abbrev pub bit_step : List ℕ → List BitNode → ℕ → ℕ → ℕ → Option ℕ
bit_step ds rs f p v =
    cond (nat_lt f (length ds)) (cond (nat_lt v (slice_index ds f)) (cond (opens rs (base_of ds f) p) (place_of_link (follow rs (base_of ds f) (base_of ds f + width_of (slice_index ds f)) v p)) None) None) None

abbrev pub bit_book : List ℕ → List BitNode → ℕ → Book
bit_book = book_of bit_step
