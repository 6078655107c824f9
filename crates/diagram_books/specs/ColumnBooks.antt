-- The rule book of a column table keeps the laws, and what it holds for good holds in one way only.
use Rattle.std.specs.Prelude.{ℕ, ◌≤◌, List, [], ⊤}
use Rattle.std.specs.Coded.{Unit-prop}
use Rattle.std.proofs.Common.{arith}
use Rattle.std.proofs.Props.{props}
use Rattle.book.specs.Books.{BookLaws}
use Rattle.diagram.specs.declared.ColumnNode.{ColumnNode}
use Rattle.node.specs.Forms.{Well, book_of}
use Rattle.node.specs.Columns.{LeadsTo, Reads, column_form, column_step}
use Rattle.node.proofs.ColumnLaws.{column_laws}

pub no_index_once : (ds : List ℕ) (x : Unit {0}) → IsProp ⊤
no_index_once ds x = Unit-prop

pub column_well_once : (ds : List ℕ) (rs : List ColumnNode) (start : ℕ) → IsProp (Well column_form ds rs start)
column_well_once ds rs start = hlevel props

pub column_false_starts : 1 ≤ 0 → LeadsTo [] 0 0
column_false_starts some = absurd (omega arith)

pub column_lawful : (ds : List ℕ) (rs : List ColumnNode) (start : ℕ) → Well column_form ds rs start → BookLaws (book_of column_step ds rs start) (Reads rs start)
column_lawful = column_laws
