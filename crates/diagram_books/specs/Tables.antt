-- What a check and its rule book have in common.
use Rattle.std.specs.Prelude.{ℕ, List, [], ◌∷◌, Ok, Err, Result}
use Rattle.fault.specs.declared.Fault.{Fault}

-- value counts, records and start link
pub record Table (N : Type 0) : Type 0 where
  pub counts : List ℕ
  pub records : List N
  pub start : ℕ

abbrev pub table : {N : Type 0} → List ℕ → List N → ℕ → Table N
table ds rs start = record { counts = ds; records = rs; start = start }

-- the table of the book that whoever wants one in either case is given: the same where it is accepted, and else one that
-- permits nothing, with one feature of one value, no record, and the start false
abbrev pub accepted : {A N : Type 0} → Result A Fault → Table N → Table N
accepted (Ok x) t = t
accepted (Err f) t = table (1 ∷ []) [] 0
