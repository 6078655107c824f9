-- When a text is a catalogue that fits the lent tables, where it is refused otherwise, and what the tables hold then.
use Rattle.std.specs.Prelude.{◌≡◌, ℕ, ◌+◌, ◌-◌, ◌≤◌, List, [], ◌∷◌, length, take, drop, Result, MatchResult, ◌≢◌}
use Rattle.diagram.specs.declared.BitNode.{BitNode}
use Rattle.diagram.specs.declared.ColumnNode.{ColumnNode}
use Rattle.fault.specs.declared.Fault.{Fault}
use Rattle.fault.specs.Told.{told}
use Rattle.text.specs.Lines.{ended, text_of}
use Rattle.text.specs.Layouts.{Refused, Surplus}
use Rattle.catalogue.specs.declared.entries.Contents.{Contents}
use Rattle.catalogue.specs.declared.entries.Feature.{Feature}
use Rattle.catalogue.specs.declared.entries.Kind.{Kind}
use Rattle.catalogue.specs.declared.entries.Kind.TheVariants.{Bit, Column}
use Rattle.catalogue.specs.Forms.{line_of, number_form}
use Rattle.catalogue.specs.Sections.{section_lines, entries, over, filled}
use Rattle.catalogue.specs.Content.{kind_form, Named, feature_form, bit_form, column_form, RecordsOf, record_lines, Content, Tables, lines, Good, Fits, catalogue_layout}

-- the entries of the features, whose section begins after line 1
abbrev pub feature_entries : Content → List Feature
feature_entries c = entries feature_form (length (ended (line_of kind_form c.kind))) c.features

-- the table of each form of record, of which k lines passed; that of the other form is untouched
abbrev pub bit_table : (kind : Kind) → ℕ → RecordsOf kind → List BitNode → List BitNode
bit_table Bit k rs table = filled k rs table
bit_table Column k rs table = table

abbrev pub column_table : (kind : Kind) → ℕ → RecordsOf kind → List ColumnNode → List ColumnNode
column_table Bit k rs table = table
column_table Column k rs table = filled k rs table

-- of the first k lines, how many are left for a section and those behind it
abbrev pub for_records : ℕ → Content → ℕ
for_records k c = k - 1 - length (section_lines feature_form c.features)

abbrev pub for_prices : ℕ → Content → ℕ
for_prices k c = for_records k c - length (record_lines c.kind c.records) - 1 - 1

abbrev pub for_calls : ℕ → Content → ℕ
for_calls k c = for_prices k c - length (section_lines number_form c.prices)

-- the tables once the first k lines have passed: the entries of these lines, and otherwise what was there before
abbrev pub held : ℕ → Content → Tables → Tables
held k c t = record {
  features = filled (k - 1) (feature_entries c) t.features;
  bits = bit_table c.kind (for_records k c) c.records t.bits;
  columns = column_table c.kind (for_records k c) c.records t.columns;
  prices = filled (for_prices k c) c.prices t.prices;
  calls = filled (for_calls k c) c.calls t.calls;
}

-- the tables of a whole catalogue
abbrev pub bits_over : (kind : Kind) → RecordsOf kind → List BitNode → List BitNode
bits_over Bit rs table = over rs table
bits_over Column rs table = table

abbrev pub columns_over : (kind : Kind) → RecordsOf kind → List ColumnNode → List ColumnNode
columns_over Bit rs table = table
columns_over Column rs table = over rs table

abbrev pub full : Content → Tables → Tables
full c t = record {
  features = over (feature_entries c) t.features;
  bits = bits_over c.kind c.records t.bits;
  columns = columns_over c.kind c.records t.columns;
  prices = over c.prices t.prices;
  calls = over c.calls t.calls;
}

abbrev pub record_count : (kind : Kind) → RecordsOf kind → ℕ
record_count Bit rs = length rs
record_count Column rs = length rs

-- what a catalogue says besides its tables
abbrev pub contents : Content → Contents
contents c = record {
  kind = c.kind;
  features = length c.features;
  records = record_count c.kind c.records;
  start = c.start;
  prices = length c.prices;
  calls = length c.calls;
}

-- the bytes that a feature's entry points at
abbrev pub name_in : List ℕ → Feature → List ℕ
name_in bs e = take e.length (drop e.place bs)

-- the entries point at the names, inside the text
abbrev pub NamesIn : List ℕ → List Feature → List Named → Type 0
NamesIn bs [] [] = Unit {0}
NamesIn bs [] (n ∷ ns) = ⊥
NamesIn bs (e ∷ es) [] = ⊥
NamesIn bs (e ∷ es) (n ∷ ns) = (e.place + e.length ≤ length bs) × (name_in bs e ≡ n.name) × NamesIn bs es ns

-- bs is the text of one catalogue, which fits; the tables went from t to u
pub record Accepted (bs : List ℕ) (t u : Tables) (r : Contents) : Type 0 where
  pub content : Content
  pub good : Good content
  pub fits : Fits t content
  pub text : bs ≡ text_of (lines content)
  pub only : (c : Content) → Good c → bs ≡ text_of (lines c) → c ≡ content
  pub tables : u ≡ full content t
  pub names : NamesIn bs (feature_entries content) content.features
  pub result : r ≡ contents content

-- bs has the fault f: among the lines of a catalogue, or after them
pub data Stopped (bs : List ℕ) (t u : Tables) (f : Fault) : Type 0 where
  inside : (r : Refused (catalogue_layout t) 0 bs f) → u ≡ held (length r.passed) r.content t → Stopped bs t u f
  behind : (r : Surplus (catalogue_layout t) bs f) → u ≡ full r.content t → Stopped bs t u f

-- bs is refused with f, the only fault that it has, and u are the only tables that it can then leave; it is the text of
-- no catalogue that fits
pub record Denied (bs : List ℕ) (t u : Tables) (f : Fault) : Type 0 where
  pub stopped : Stopped bs t u f
  pub only : (v : Tables) (g : Fault) → Stopped bs t v g → (told g ≡ told f) × (v ≡ u)
  pub never : (c : Content) → Good c → Fits t c → bs ≢ text_of (lines c)

-- the reader's answer to bs, with tables that went from t to u
abbrev pub Judged : List ℕ → Tables → Tables → Result Contents Fault → Type 0
Judged bs t u r = MatchResult r (λ c. Accepted bs t u c) (λ f. Denied bs t u f)
