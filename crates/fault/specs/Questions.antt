-- Numbered questions, asked one after another: the first no decides, and without a no the call is accepted.
use Rattle.std.specs.Prelude.{◌≡◌, ℕ, zero, suc, ◌⊎◌, Some, None, Ok, Err, Option, Result}
use Rattle.fault.specs.declared.Fault.{Fault}
use Rattle.fault.specs.Told.{Told, told}

-- what a call refuses by: none where it is accepted, or else what its fault tells
abbrev pub refusal : {A : Type 0} → Result A Fault → Option Told
refusal (Ok x) = None
refusal (Err f) = Some (told f)

-- questions in their order, as the law of the refusal that they lead to
abbrev pub Chain : Type 1
Chain = Option Told → Type 0

-- one question, and then the rest: on a yes the rest decides, and on a no this is the refusal
abbrev pub Asks : Told → Type 0 → Chain → Chain
Asks refused Yes rest r = (Yes × rest r) ⊎ ((Yes → ⊥) × (r ≡ Some refused))

-- the questions of number 0, then those of 1, and so on, of n numbers in all, and then the rest
abbrev pub AsksEach : ℕ → (ℕ → Chain → Chain) → Chain → Chain
AsksEach zero ask rest = rest
AsksEach (suc n) ask rest = AsksEach n ask (ask n rest)

-- no question is left
abbrev pub Accepts : Chain
Accepts r = r ≡ None
