-- Joined prices against their true sum.
use Rattle.std.proofs.Common.{◌≡◌, min, List, [], ◌∷◌, refl, arith}
use Rattle.tariff.specs.Costs.{total}
use Rattle.tariff.specs.Money.{cents_costs}
use Rattle.tariff.specs.TrueSums.{true_sum}
use Rattle.tariff.specs.declared.costs.Money.{Money}

-- stopping at each join is stopping the true sum once
pub total_stops : (ms : List Money) → (total cents_costs ms).cents ≡ min (true_sum ms) 4294967295
total_stops [] = refl
total_stops (m ∷ ms) = omega (arith, total_stops ms)
