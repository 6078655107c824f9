-- What a catalogue says, and the lines that say it.
use Rattle.std.specs.Prelude.{ℕ, ◌≤◌, List, [], ◌∷◌, ◌++◌, map, length, replicate, codes, decimal}
use Rattle.std.specs.List.{AllByRecursion}
use Rattle.diagram.specs.declared.BitNode.{BitNode}
use Rattle.diagram.specs.declared.ColumnNode.{ColumnNode}
use Rattle.text.specs.Fields.{Small, IsName}
use Rattle.text.specs.Layouts.{Layout}
use Rattle.catalogue.specs.declared.entries.Call.{Call}
use Rattle.catalogue.specs.declared.entries.Call.TheVariants.{Choose, Back, Ceiling, Lift}
use Rattle.catalogue.specs.declared.entries.Contents.{Contents}
use Rattle.catalogue.specs.declared.entries.Feature.{Feature}
use Rattle.catalogue.specs.declared.entries.Kind.{Kind}
use Rattle.catalogue.specs.declared.entries.Kind.TheVariants.{Bit, Column}
use Rattle.catalogue.specs.declared.entries.One.{One}
use Rattle.catalogue.specs.declared.tables.Tables as Lent
use Rattle.catalogue.specs.Forms.{Form, line_of, numbers_form, number_form}
use Rattle.catalogue.specs.Sections.{section_lines}

-- line 1: the form of the diagram
abbrev pub kind_name : Kind → List ℕ
kind_name Bit = codes "B"
kind_name Column = codes "C"

-- what a catalogue's kind and counts print as, but for the last byte 10
abbrev pub contents_text : Contents → List ℕ
contents_text c =
    codes "kind " ++ (kind_name c.kind ++ (codes "\nfeatures " ++ (decimal c.features ++ (codes "\nrecords " ++ (decimal c.records
    ++ (codes "\nprices " ++ (decimal c.prices ++ (codes "\ncalls " ++ decimal c.calls))))))))

abbrev pub kind_form : Form Kind
kind_form = record { Value = Kind; Good = λ k. Unit {0}; fields = λ k. kind_name k ∷ []; entry = λ at k. k }

-- the count of the section that has one entry, the start
abbrev pub one_form : Form One
one_form = record { Value = One; Good = λ o. Unit {0}; fields = λ o. decimal 1 ∷ []; entry = λ at o. o }

abbrev pub bit_numbers : BitNode → List ℕ
bit_numbers x = x.bit ∷ x.low ∷ x.high ∷ []

abbrev pub bit_form : Form BitNode
bit_form = numbers_form bit_numbers

abbrev pub column_numbers : ColumnNode → List ℕ
column_numbers x = x.column ∷ x.value ∷ x.high ∷ x.low ∷ []

abbrev pub column_form : Form ColumnNode
column_form = numbers_form column_numbers

-- a feature: its name, and how many values it has; the entry has the place and the length of the name in its stead
pub record Named : Type 0 where
  pub name : List ℕ
  pub values : ℕ

abbrev pub feature_form : Form Feature
feature_form = record {
  Value = Named;
  Good = λ x. IsName x.name × Small x.values;
  fields = λ x. x.name ∷ decimal x.values ∷ [];
  entry = λ at x. record { place = at; length = length x.name; values = x.values };
}

-- a call: its word, and its numbers
abbrev pub call_word : Call → List ℕ
call_word (Choose f v) = codes "choose"
call_word (Back f) = codes "back"
call_word (Ceiling c) = codes "ceiling"
call_word Lift = codes "lift"

abbrev pub call_numbers : Call → List ℕ
call_numbers (Choose f v) = f ∷ v ∷ []
call_numbers (Back f) = f ∷ []
call_numbers (Ceiling c) = c ∷ []
call_numbers Lift = []

abbrev pub call_form : Form Call
call_form = record { Value = Call; Good = λ x. AllByRecursion Small (call_numbers x); fields = λ x. call_word x ∷ map decimal (call_numbers x); entry = λ at x. x }

-- the records of a diagram, by its kind
abbrev pub RecordsOf : Kind → Type 0
RecordsOf Bit = List BitNode
RecordsOf Column = List ColumnNode

pub record Content : Type 0 where
  pub kind : Kind
  pub features : List Named
  pub records : RecordsOf kind
  pub start : ℕ
  pub prices : List ℕ
  pub calls : List Call

-- the tables that are lent
pub record Tables : Type 0 where
  pub features : List Feature
  pub bits : List BitNode
  pub columns : List ColumnNode
  pub prices : List ℕ
  pub calls : List Call

abbrev pub lent : List Feature → List BitNode → List ColumnNode → List ℕ → List Call → Tables
lent fs bs cs ps ks = record { features = fs; bits = bs; columns = cs; prices = ps; calls = ks }

-- the same of tables that are one struct
abbrev pub lent_of : {features records prices calls : ℕ} → Lent.Tables features records prices calls → Tables
lent_of t = lent t.features t.bits t.columns t.prices t.calls

-- tables before anything is read, with room for so many features, records of either form, prices and calls
abbrev pub blank_tables : ℕ → ℕ → ℕ → ℕ → Tables
blank_tables features records prices calls =
    lent (replicate features (record { place = 0; length = 0; values = 0 })) (replicate records (record { bit = 0; low = 0; high = 0 }))
    (replicate records (record { column = 0; value = 0; high = 0; low = 0 })) (replicate prices 0) (replicate calls Lift)

abbrev pub record_lines : (k : Kind) → RecordsOf k → List (List ℕ)
record_lines Bit rs = section_lines bit_form rs
record_lines Column rs = section_lines column_form rs

abbrev pub RecordsGood : (k : Kind) → RecordsOf k → Type 0
RecordsGood Bit rs = AllByRecursion bit_form.Good rs × Small (length rs)
RecordsGood Column rs = AllByRecursion column_form.Good rs × Small (length rs)

-- the table that the kind asks for has room
abbrev pub RecordsFit : (k : Kind) → RecordsOf k → Tables → Type 0
RecordsFit Bit rs t = length rs ≤ length t.bits
RecordsFit Column rs t = length rs ≤ length t.columns

-- the lines of a catalogue: its kind, and five sections, of which the start has one entry
abbrev pub lines : Content → List (List ℕ)
lines c =
    line_of kind_form c.kind
    ∷ (section_lines feature_form c.features
    ++ (record_lines c.kind c.records
    ++ (section_lines number_form (c.start ∷ [])
    ++ (section_lines number_form c.prices
    ++ section_lines call_form c.calls))))

pub record Good (c : Content) : Type 0 where
  pub features : AllByRecursion feature_form.Good c.features × Small (length c.features)
  pub records : RecordsGood c.kind c.records
  pub start : Small c.start
  pub prices : AllByRecursion number_form.Good c.prices × Small (length c.prices)
  pub calls : AllByRecursion call_form.Good c.calls × Small (length c.calls)

pub record Fits (t : Tables) (c : Content) : Type 0 where
  pub features : length c.features ≤ length t.features
  pub records : RecordsFit c.kind c.records t
  pub prices : length c.prices ≤ length t.prices
  pub calls : length c.calls ≤ length t.calls

abbrev pub catalogue_layout : Tables → Layout
catalogue_layout t = record { Content = Content; Good = Good; Fits = Fits t; lines = lines }
