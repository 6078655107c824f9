-- What a fault tells: the number of the question that is answered by no, the layer that asks it, the place and the
-- line. Every contract that speaks of a refusal speaks of it through `told`.
use Rattle.std.specs.Prelude.{ℕ, List, ◌∷◌, ◌++◌, codes, decimal}
use Rattle.fault.specs.declared.Fault.{Fault}
use Rattle.fault.specs.declared.Fault.TheVariants.{BadFeatureCount, BadValueCount, TooManyRecords, NoSuchTest, BadLink, BadStart, PriceCount, StripLength, SlipOfAnotherBook, NoSuchFeature, NoSuchValue, ResultLength, FeatureNotChosen, NothingFits, ChoiceWouldNotFit, CeilingWouldNotFit, IllFormedLine, TextEnd, TableTooSmall}
use Rattle.fault.specs.declared.Layer.{Layer}
use Rattle.fault.specs.declared.Layer.TheVariants.{File, Table, Slip}

pub record Told : Type 0 where
  pub number : ℕ
  pub layer : Layer
  pub place : ℕ
  pub line : ℕ

-- a fault of a table has the place and the line of its entry, one of a slip has no line, and one of a file no place
abbrev pub table_fault : ℕ → ℕ → ℕ → Told
table_fault n place line = record { number = n; layer = Table; place = place; line = line }

abbrev pub slip_fault : ℕ → ℕ → Told
slip_fault n place = record { number = n; layer = Slip; place = place; line = 0 }

abbrev pub file_fault : ℕ → ℕ → Told
file_fault n line = record { number = n; layer = File; place = 0; line = line }

abbrev pub told : Fault → Told
told (BadFeatureCount line) = table_fault 1 0 line
told (BadValueCount feature line) = table_fault 1 feature line
told (TooManyRecords line) = table_fault 2 0 line
told (NoSuchTest row line) = table_fault 3 row line
told (BadLink row line) = table_fault 4 row line
told (BadStart line) = table_fault 5 0 line
told PriceCount = slip_fault 6 0
told StripLength = slip_fault 7 0
told SlipOfAnotherBook = slip_fault 8 0
told (NoSuchFeature feature) = slip_fault 9 feature
told (NoSuchValue feature) = slip_fault 10 feature
told ResultLength = slip_fault 11 0
told FeatureNotChosen = slip_fault 12 0
told NothingFits = slip_fault 13 0
told (ChoiceWouldNotFit feature) = slip_fault 14 feature
told CeilingWouldNotFit = slip_fault 14 0
told (IllFormedLine line) = file_fault 15 line
told (TextEnd line) = file_fault 16 line
told (TableTooSmall line) = file_fault 17 line

-- the word that a layer prints as
abbrev pub layer_name : Layer → List ℕ
layer_name File = codes "file"
layer_name Table = codes "table"
layer_name Slip = codes "slip"

-- what a fault prints: fault NUMBER LAYER PLACE LINE
abbrev pub fault_line : Fault → List ℕ
fault_line f =
    codes "fault " ++ (decimal (told f).number ++ (32 ∷ (layer_name (told f).layer ++ (32 ∷ (decimal (told f).place ++ (32 ∷ decimal (told f).line))))))
