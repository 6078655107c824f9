-- The lines of a text, and what a reader has taken of them.
use Rattle.std.specs.Prelude.{◌≡◌, ℕ, ◌+◌, List, [], ◌∷◌, ◌++◌, length, drop}
use Rattle.fault.specs.declared.Fault.{Fault}
use Rattle.fault.specs.Told.{told, file_fault}
use Rattle.text.specs.declared.line.Line.{Line}
use Rattle.text.specs.declared.reader.Reader.{Reader}
use Rattle.text.specs.Fields.{Lacks, fields}
use Rattle.text.specs.Tokens.{left}

-- a line with its byte 10
abbrev pub ended : List ℕ → List ℕ
ended l = l ++ 10 ∷ []

-- the text that lines make
abbrev pub text_of : List (List ℕ) → List ℕ
text_of [] = []
text_of (l ∷ ls) = ended l ++ text_of ls

-- the bytes that are not read yet
abbrev pub rest : Reader → List ℕ
rest r = drop r.at r.text.now

-- f is the fault of the text at the line after those read: it ends too early or too late, and question 16 says no
abbrev pub WrongEnd : Reader → Fault → Type 0
WrongEnd r f = told f ≡ file_fault 16 (r.line + 1)

-- nothing of the text bs is read yet
pub record Fresh (bs : List ℕ) (r : Reader) : Type 0 where
  pub text : r.text.now ≡ bs
  pub at : r.at ≡ 0
  pub line : r.line ≡ 0

-- b is the reader a after the lines ls
pub record Took (a b : Reader) (ls : List (List ℕ)) : Type 0 where
  pub same : b.text.now ≡ a.text.now
  pub front : rest a ≡ text_of ls ++ rest b
  pub at : b.at ≡ a.at + length (text_of ls)
  pub line : b.line ≡ a.line + length ls

-- l is the next line of a, of which no field is taken, and b is a after it
pub record Cut (a b : Reader) (l : Line) : Type 0 where
  pub bytes : List ℕ
  pub took : Took a b (bytes ∷ [])
  pub lacks : Lacks 10 bytes
  pub fields : left l ≡ fields bytes
  pub start : l.start ≡ a.at
  pub number : l.number ≡ a.line + 1
