-- The worked examples that are proved, in one statement.
use Rattle.std.specs.Prelude.{◌≡◌, ℕ, ◌<◌, List, [], ◌∷◌}
use Rattle.tariff.specs.declared.costs.Amount.{Amount}
use Rattle.tariff.specs.declared.costs.Money.{Money}
use Rattle.tariff.specs.declared.costs.Special.{Special}
use Rattle.tariff.specs.declared.costs.Special.TheVariants.{Parts, Beyond}
use Rattle.tariff.specs.Money.{cents_costs}
use Rattle.tariff.specs.Special.{specials_costs}
use Rattle.book.specs.Books.{FullSet}
use Rattle.diagram.specs.declared.BitNode.{BitNode}
use Rattle.diagram.specs.declared.ColumnNode.{ColumnNode}
use Rattle.node.specs.Forms.{Well}
use Rattle.node.specs.Bits.{Reaches, bit_book, bit_form, bit_of}
use Rattle.node.specs.Columns.{Reads, column_form}
use Rattle.examples.specs.declared.product.Example.{Example}

abbrev bit : ℕ → ℕ → ℕ → BitNode
bit b low high = record { bit = b; low = low; high = high }

abbrev column : ℕ → ℕ → ℕ → ℕ → ColumnNode
column k value high low = record { column = k; value = value; high = high; low = low }

-- value counts, records and start of the product
abbrev pub counts : List ℕ
counts = 3 ∷ 2 ∷ 2 ∷ []

abbrev pub bits : List BitNode
bits = bit 0 3 1 ∷ bit 1 1 4 ∷ bit 2 1 0 ∷ []

abbrev pub columns : List ColumnNode
columns =
    column 0 0 5 3 ∷ column 0 1 5 4 ∷ column 0 2 7 0 ∷ column 1 0 8 6 ∷ column 1 1 8 0 ∷ column 1 0 8 0 ∷ column 2 0 1 9 ∷ column 2 1 1 0 ∷ []

-- the cost of so many cents, and of so many special parts with so many cents
abbrev pub cents : (n : ℕ) → n < 4294967296 → Money
cents n fits = record { cents = n; fits = fits }

abbrev pub amount : (n c : ℕ) → n < 65536 → c < 4294967296 → Amount
amount n c few fits = record { count = n; cents = c; few = few; fits = fits }

abbrev pub parts : (n c : ℕ) → n < 65536 → c < 4294967296 → Special
parts n c few fits = Parts (amount n c few fits)

pub record Starred (x : Example) : Type 0 where
  -- the product is the one of the example catalogue
  pub same_counts : x.counts ≡ counts
  pub same_bits : x.bits ≡ bits
  pub same_columns : x.columns ≡ columns
  pub same_start : x.start ≡ 2
  -- both tables are accepted by their checks
  pub bit_well : Well bit_form counts bits 2
  pub column_well : Well column_form counts columns 2
  -- the column table permits what the bit table permits, for every full set
  pub column_permits : (xs : List ℕ) → FullSet (bit_book counts bits 2) xs → Reaches bits (bit_of counts xs) 2 → Reads columns 2 xs
  pub bit_permits : (xs : List ℕ) → FullSet (bit_book counts bits 2) xs → Reads columns 2 xs → Reaches bits (bit_of counts xs) 2
  -- 4,294,967,295 cents joined with 1 are the same
  pub cents_stop : (a : 4294967295 < 4294967296) (b : 1 < 4294967296) → cents_costs.join (cents 4294967295 a) (cents 1 b) ≡ cents 4294967295 a
  -- special parts (1, 900) joined with (0, 600) are (1, 1500), and (65,535, 0) joined with (1, 0) is beyond
  pub parts_add : (a : 1 < 65536) (b : 900 < 4294967296) (c : 0 < 65536) (d : 600 < 4294967296) (e : 1500 < 4294967296) → specials_costs.join (parts 1 900 a b) (parts 0 600 c d) ≡ parts 1 1500 a e
  pub parts_beyond : (a : 65535 < 65536) (b : 0 < 4294967296) (c : 1 < 65536) → specials_costs.join (parts 65535 0 a b) (parts 1 0 c b) ≡ Beyond
