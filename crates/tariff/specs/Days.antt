-- Times in days: of two times that run side by side the longer counts.
use Rattle.std.specs.Prelude.{ℕ, max, nat_le}
use Rattle.tariff.specs.Costs.{Costs}

abbrev pub days_costs : Costs ℕ
days_costs = record { neutral = 0; join = max; le = nat_le }
