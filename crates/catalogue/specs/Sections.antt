-- A section: a line with a count, and that many lines, each of one form.
use Rattle.std.specs.Prelude.{◌≡◌, ℕ, ◌+◌, ◌-◌, ◌<◌, ◌≤◌, List, [], ◌∷◌, ◌++◌, map, length, take, drop}
use Rattle.std.specs.List.{AllByRecursion}
use Rattle.fault.specs.declared.Fault.{Fault}
use Rattle.fault.specs.Told.{told, file_fault}
use Rattle.text.specs.declared.reader.Reader.{Reader}
use Rattle.text.specs.Fields.{Small}
use Rattle.text.specs.Lines.{ended, rest, Took}
use Rattle.text.specs.Layouts.{Layout, Refused}
use Rattle.catalogue.specs.Forms.{Form, line_of, number_form}

-- the lines of a section of the values xs
abbrev pub section_lines : {E : Type 0} (F : Form E) → List F.Value → List (List ℕ)
section_lines F xs = line_of number_form (length xs) ∷ map (line_of F) xs

-- the layouts of one line alone, and of a section whose table has room for so many entries
abbrev pub line_layout : {E : Type 0} → Form E → Layout
line_layout F = record { Content = F.Value; Good = F.Good; Fits = λ x. Unit {0}; lines = λ x. line_of F x ∷ [] }

abbrev pub section_layout : {E : Type 0} → Form E → ℕ → Layout
section_layout F room = record {
  Content = List F.Value;
  Good = λ xs. AllByRecursion F.Good xs × Small (length xs);
  Fits = λ xs. length xs ≤ room;
  lines = section_lines F;
}

-- the entries of the values xs, the first of whose lines begins at `at`
abbrev pub placed : {E : Type 0} (F : Form E) → ℕ → List F.Value → List E
placed F at [] = []
placed F at (x ∷ xs) = F.entry at x ∷ placed F (at + length (ended (line_of F x))) xs

-- the entries of a section that begins at `at`, with its count
abbrev pub entries : {E : Type 0} (F : Form E) → ℕ → List F.Value → List E
entries F at xs = placed F (at + length (ended (line_of number_form (length xs)))) xs

-- a table that begins with the entries xs, and is otherwise as before
abbrev pub over : {E : Type 0} → List E → List E → List E
over xs table = xs ++ drop (length xs) table

-- the table of a section of which k lines passed; the first of them is the count
abbrev pub filled : {E : Type 0} → ℕ → List E → List E → List E
filled k xs table = over (take (k - 1) xs) table

-- the next line of a is read: it says a value, whose entry is e
pub record Entered {E : Type 0} (F : Form E) (a b : Reader) (e : E) : Type 0 where
  pub value : F.Value
  pub good : F.Good value
  pub took : Took a b (line_of F value ∷ [])
  pub entry : e ≡ F.entry a.at value

-- the next line is a count, for which there is room, or there is none
pub record Counted (room : ℕ) (a b : Reader) (n : ℕ) : Type 0 where
  pub small : Small n
  pub fits : n ≤ room
  pub took : Took a b (line_of number_form n ∷ [])

pub record Crowded (room : ℕ) (a : Reader) (f : Fault) : Type 0 where
  pub count : ℕ
  pub small : Small count
  pub large : room < count
  pub more : List ℕ
  pub split : rest a ≡ ended (line_of number_form count) ++ more
  pub is : told f ≡ file_fault 17 (a.line + 1)

-- a section of n values is read, and its table went from `before` to `after`
pub record Section {E : Type 0} (F : Form E) (a b : Reader) (before after : List E) (n : ℕ) : Type 0 where
  pub values : List F.Value
  pub good : AllByRecursion F.Good values × Small (length values)
  pub fits : length values ≤ length before
  pub count : n ≡ length values
  pub took : Took a b (section_lines F values)
  pub table : after ≡ over (entries F a.at values) before

-- a section is refused, and the entries of the lines that passed stand in its table
pub record NoSection {E : Type 0} (F : Form E) (a : Reader) (before after : List E) (f : Fault) : Type 0 where
  pub refused : Refused (section_layout F (length before)) a.line (rest a) f
  pub table : after ≡ filled (length refused.passed) (entries F a.at refused.content) before
