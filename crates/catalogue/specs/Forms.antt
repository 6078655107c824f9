-- A form of line: the values that a line can say, the fields that say each, and the entry that a table then gets.
use Rattle.std.specs.Prelude.{◌≡◌, ℕ, List, [], ◌∷◌, map, decimal, ◌≢◌}
use Rattle.std.specs.List.{AllByRecursion}
use Rattle.fault.specs.declared.Fault.{Fault}
use Rattle.fault.specs.Told.{told, file_fault}
use Rattle.text.specs.declared.line.Line.{Line}
use Rattle.text.specs.Fields.{Lacks, Small, spaced}
use Rattle.text.specs.Tokens.{left}

-- a form whose lines give entries of a table of E
pub record Form (E : Type 0) : Type 1 where
  pub Value : Type 0
  pub Good : Value → Type 0
  pub fields : Value → List (List ℕ)
  -- the entry of a value whose line begins at that place of the text
  pub entry : ℕ → Value → E

-- the line that says a value
abbrev pub line_of : {E : Type 0} (F : Form E) → F.Value → List ℕ
line_of F x = spaced (F.fields x)

-- a field that can be read back: it has no space and no byte 10
abbrev pub Plain : List ℕ → Type 0
Plain f = Lacks 32 f × Lacks 10 f

abbrev pub SomePlain : List (List ℕ) → Type 0
SomePlain [] = ⊥
SomePlain (f ∷ fs) = Plain f × AllByRecursion Plain fs

-- there is a value, each has fields that can be read back, and no two have the same
pub record Lawful {E : Type 0} (F : Form E) : Type 0 where
  pub example : F.Value
  pub example_good : F.Good example
  pub plain : (x : F.Value) → F.Good x → SomePlain (F.fields x)
  pub one : (x y : F.Value) → F.Good x → F.Good y → F.fields x ≡ F.fields y → x ≡ y

-- the line l says a value, whose entry is e
pub record Said {E : Type 0} (F : Form E) (l : Line) (e : E) : Type 0 where
  pub value : F.Value
  pub good : F.Good value
  pub fields : left l ≡ F.fields value
  pub entry : e ≡ F.entry l.start value

-- the line l says no value
pub record Unsaid {E : Type 0} (F : Form E) (l : Line) (f : Fault) : Type 0 where
  pub is : told f ≡ file_fault 15 l.number
  pub never : (x : F.Value) → F.Good x → left l ≢ F.fields x

-- a row of numbers: each entry is just its numbers
abbrev pub numbers_form : {E : Type 0} → (E → List ℕ) → Form E
numbers_form {E} numbers = record { Value = E; Good = λ x. AllByRecursion Small (numbers x); fields = λ x. map decimal (numbers x); entry = λ at x. x }

-- a number alone: a count, the start, a price
abbrev pub alone : ℕ → List ℕ
alone n = n ∷ []

abbrev pub number_form : Form ℕ
number_form = numbers_form alone
