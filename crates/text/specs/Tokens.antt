-- What is left of a line, and what a token is.
use Rattle.std.specs.Prelude.{◌≡◌, ℕ, List, [], drop, Some, None, Option}
use Rattle.std.specs.Borrow.{Bor}
use Rattle.fault.specs.declared.Fault.{Fault}
use Rattle.fault.specs.Told.{told, file_fault}
use Rattle.text.specs.declared.line.Line.{Line}
use Rattle.text.specs.declared.line.Token.{Token}
use Rattle.text.specs.declared.line.Want.{Want}
use Rattle.text.specs.Fields.{IsName, IsNumber, fields}

abbrev pub fields_in : Option (Bor (List ℕ)) → List (List ℕ)
fields_in None = []
fields_in (Some bytes) = fields bytes.now

-- the fields of a line that are not taken yet
abbrev pub left : Line → List (List ℕ)
left l = fields_in l.rest

-- f is the fault of the line l, that it is not of its form: question 15 says no
abbrev pub IllFormed : Line → Fault → Type 0
IllFormed l f = told f ≡ file_fault 15 l.number

-- b is the line a after one field more, if there was one
pub record Passed (a b : Line) : Type 0 where
  pub fields : left b ≡ drop 1 (left a)
  pub start : b.start ≡ a.start
  pub number : b.number ≡ a.number

-- t is the token that the field bs is, of the kind that is wanted
abbrev pub Is : Want → Token → List ℕ → Type 0
Is Want.Name (Token.Name b) bs = IsName bs × (b.now ≡ bs)
Is Want.Number (Token.Number b n) bs = IsNumber n bs × (b.now ≡ bs)
Is Want.Word (Token.Word b) bs = b.now ≡ bs
Is _ _ bs = ⊥

-- the field bs is no token of the kind that is wanted
abbrev pub IsNot : Want → List ℕ → Type 0
IsNot Want.Name bs = IsName bs → ⊥
IsNot Want.Number bs = (n : ℕ) → IsNumber n bs → ⊥
IsNot Want.Word bs = ⊥
