-- What prices come to with no largest number.
use Rattle.std.specs.Prelude.{ℕ, ◌+◌, List, [], ◌∷◌}
use Rattle.tariff.specs.declared.costs.Money.{Money}

-- all cents added
abbrev pub true_sum : List Money → ℕ
true_sum [] = 0
true_sum (m ∷ ms) = m.cents + true_sum ms
