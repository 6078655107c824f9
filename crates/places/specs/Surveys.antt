-- What is found in a text: with tables for 24 features, 64 records, 384 prices and 64 calls.
use Rattle.std.specs.Prelude.{◌≡◌, ℕ, ◌+◌, ◌≤◌, ◌⊎◌, List, map, length, take, IfOk, Err, Result}
use Rattle.fault.specs.declared.Fault.{Fault}
use Rattle.fault.specs.Questions.{Chain, refusal}
use Rattle.diagram.specs.declared.BitNode.{BitNode}
use Rattle.diagram.specs.declared.ColumnNode.{ColumnNode}
use Rattle.node.specs.Bits.{bit_form}
use Rattle.node.specs.Columns.{column_form}
use Rattle.diagram_books.specs.declared.source.Source.TheVariants.{Catalogue}
use Rattle.diagram_books.specs.Checks.{AsksTable}
use Rattle.catalogue.specs.declared.entries.Contents.{Contents}
use Rattle.catalogue.specs.declared.entries.Feature.{Feature}
use Rattle.catalogue.specs.declared.entries.Kind.{Kind}
use Rattle.catalogue.specs.declared.entries.Kind.TheVariants.{Bit, Column}
use Rattle.catalogue.specs.Content.{Content, RecordsOf, Tables}
use Rattle.catalogue.specs.Desk.{blank, TooLong}
use Rattle.catalogue.specs.Whole.{Accepted, Denied}

-- the questions of a catalogue's table, by its kind
abbrev pub AsksKind : (k : Kind) → List ℕ → RecordsOf k → ℕ → Chain
AsksKind Bit ds rs start = AsksTable Catalogue bit_form ds rs start
AsksKind Column ds rs start = AsksTable Catalogue column_form ds rs start

abbrev pub AsksContent : Content → Chain
AsksContent c = AsksKind c.kind (map (λ f. f.values) c.features) c.records c.start

-- the same of what stands in the tables
abbrev pub first_records : (k : Kind) → ℕ → List BitNode → List ColumnNode → RecordsOf k
first_records Bit m bits columns = take m bits
first_records Column m bits columns = take m columns

abbrev pub AsksTables : Contents → List Feature → List BitNode → List ColumnNode → Chain
AsksTables c features bits columns =
    AsksKind c.kind (take c.features (map (λ f. f.values) features)) (first_records c.kind c.records bits columns) c.start

-- bs is a catalogue; its table is accepted or refused, and the number of places is that of its records and 2 more
pub record Read (bs : List ℕ) (r : Result ℕ Fault) : Type 0 where
  pub short : length bs ≤ 16384
  pub after : Tables
  pub contents : Contents
  pub accepted : Accepted bs blank after contents
  pub asked : AsksContent accepted.content (refusal r)
  pub places : IfOk r (λ p. p ≡ contents.records + 2)

-- the reader refuses bs
pub record Unread (bs : List ℕ) (r : Result ℕ Fault) : Type 0 where
  pub short : length bs ≤ 16384
  pub after : Tables
  pub fault : Fault
  pub denied : Denied bs blank after fault
  pub is : r ≡ Err fault

-- one of the three
abbrev pub Surveyed : List ℕ → Result ℕ Fault → Type 0
Surveyed bs r = Read bs r ⊎ (Unread bs r ⊎ TooLong bs r)
