-- The rule book of a bit table keeps the laws, and what it holds for good holds in one way only.
use Rattle.std.specs.Prelude.{ℕ, ◌+◌, ◌<◌, List, [], length}
use Rattle.std.proofs.Common.{lit<}
use Rattle.std.proofs.Props.{props}
use Rattle.book.specs.Books.{BookLaws}
use Rattle.diagram.specs.declared.BitNode.{BitNode}
use Rattle.node.specs.Forms.{Well, book_of}
use Rattle.diagram_books.specs.Bases.{Based}
use Rattle.node.specs.Bits.{Reaches, bit_form, bit_of, bit_step}
use Rattle.node.proofs.BitLaws.{bit_laws}

pub based_once : (ds bases : List ℕ) → IsProp (Based ds bases)
based_once ds bases = hlevel props

pub bit_well_once : (ds : List ℕ) (rs : List BitNode) (start : ℕ) → IsProp (Well bit_form ds rs start)
bit_well_once ds rs start = hlevel props

pub bit_false_starts : 0 < length {A = BitNode} [] + 2
bit_false_starts = lit< tt

pub bit_lawful : (ds : List ℕ) (rs : List BitNode) (start : ℕ) → Well bit_form ds rs start → BookLaws (book_of bit_step ds rs start) (λ xs. Reaches rs (bit_of ds xs) start)
bit_lawful = bit_laws
