-- The examples are so.
use Rattle.std.proofs.Common.{◌≡◌, ℕ, Bool, true, List, is_some, sym, ◌∙◌, refl, arith, rules}
use Rattle.std.specs.Bool.{beq}
use Rattle.std.specs.Cmp.{booleans_Decides}
use Rattle.std.specs.List.{AllByRecursion}
use Rattle.std.proofs.ByRecursion.{All-get_or}
use Rattle.book.specs.Books.{FullSet, walk_of}
use Rattle.diagram.specs.declared.BitNode.{BitNode}
use Rattle.diagram.specs.declared.ColumnNode.{ColumnNode}
use Rattle.node.specs.Forms.{Well, FewValues}
use Rattle.node.specs.Bits.{Reaches, bit_book, bit_form, bit_of}
use Rattle.node.specs.Columns.{Reads, column_book, column_form}
use Rattle.node.proofs.BitLaws.{bit_laws}
use Rattle.node.proofs.ColumnLaws.{column_laws}
use Rattle.examples.specs.Starred.{bits, columns, counts}
use Rattle.examples.proofs.Sets.{every_set, set_holds}

-- what is asked of a record
abbrev BitFine : BitNode → Type 0
BitFine r = bit_form.exists counts r × bit_form.linked counts bits r

abbrev ColumnFine : ColumnNode → Type 0
ColumnFine r = column_form.exists counts r × column_form.linked counts columns r

valued : AllByRecursion FewValues counts
valued = search rules

bits_fine : AllByRecursion BitFine bits
bits_fine = search rules

columns_fine : AllByRecursion ColumnFine columns
columns_fine = search rules

pub bit_well : Well bit_form counts bits 2
bit_well =
    ((omega arith, omega arith), (λ i h. All-get_or FewValues counts i 0 h valued), omega arith, (λ r h. All-get_or BitFine bits r bit_form.blank h bits_fine), omega arith)

pub column_well : Well column_form counts columns 2
column_well = (
  (omega arith, omega arith),
  (λ i h. All-get_or FewValues counts i 0 h valued),
  omega arith,
  (λ r h. All-get_or ColumnFine columns r column_form.blank h columns_fine),
  λ m. ((omega arith, omega arith), refl),
)

abbrev passes : List ℕ → Bool
passes xs = is_some (walk_of (bit_book counts bits 2) xs)

abbrev reads : List ℕ → Bool
reads xs = is_some (walk_of (column_book counts columns 2) xs)

-- both walks pass, or neither, for every full set
all_agree : every_set counts (λ xs. beq (passes xs) (reads xs)) ≡ true
all_agree = refl

agree : (xs : List ℕ) → FullSet (bit_book counts bits 2) xs → passes xs ≡ reads xs
agree xs full =
    (booleans_Decides (passes xs) (reads xs)).0 (set_holds counts (λ ys. beq (passes ys) (reads ys)) all_agree xs full.size full.each)

-- a full set of one book is one of the other
pub full_column : (xs : List ℕ) → FullSet (bit_book counts bits 2) xs → FullSet (column_book counts columns 2) xs
full_column xs full = record { size = full.size; each = full.each }

pub column_permits : (xs : List ℕ) → FullSet (bit_book counts bits 2) xs → Reaches bits (bit_of counts xs) 2 → Reads columns 2 xs
column_permits xs full r =
    ((column_laws counts columns 2 column_well).decided xs (full_column xs full)).0
    (sym (agree xs full) ∙ ((bit_laws counts bits 2 bit_well).decided xs full).1 r)

pub bit_permits : (xs : List ℕ) → FullSet (bit_book counts bits 2) xs → Reads columns 2 xs → Reaches bits (bit_of counts xs) 2
bit_permits xs full r =
    ((bit_laws counts bits 2 bit_well).decided xs full).0
    (agree xs full ∙ ((column_laws counts columns 2 column_well).decided xs (full_column xs full)).1 r)
