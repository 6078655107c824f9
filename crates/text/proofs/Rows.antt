-- A row of numbers. Assumes nothing.
use Rattle.std.proofs.Common.{◌≡◌, ℕ, ◌<◌, List, [], ◌∷◌, ◌++◌, map, length, decimal, arith}
use Rattle.std.specs.List.{AllByRecursion}
use Rattle.text.specs.Fields.{Small}

-- fields that begin with the numbers `seen` and are all of `ns` go on with a number, as long as there are more
pub next_number : (seen ns : List ℕ) (more : List (List ℕ)) → length seen < length ns → AllByRecursion Small ns → ((n : ℕ) (rest : List (List ℕ)) → Small n → more ≡ decimal n ∷ rest → ⊥) → map decimal seen ++ more ≡ map decimal ns → ⊥
next_number seen [] more lt small none e = omega arith
next_number [] (n ∷ ns) more lt small none e = none n (map decimal ns) small.0 e
next_number (m ∷ seen) (n ∷ ns) more lt small none e = next_number seen ns more (omega arith) small.1 none (cc)
