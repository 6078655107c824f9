-- Prices in cents.
use Rattle.std.specs.Prelude.{ℕ, ◌+◌, ◌<◌, min, Bool, nat_le}
use Rattle.std.proofs.Common.{lit<}
use Rattle.std.proofs.Math.Nat.{min-le_right, lt_of_le_of_lt}
use Rattle.tariff.specs.Costs.{Costs}
use Rattle.tariff.specs.declared.costs.Money.{Money}

-- a number of cents stopped at the largest fits
pub stopped_fits : (n : ℕ) → min n 4294967295 < 4294967296
stopped_fits n = lt_of_le_of_lt (min-le_right n 4294967295) (lit< tt)

abbrev pub no_money : Money
no_money = record { cents = 0; fits = lit< tt }

-- the sum, stopped at the largest
abbrev pub sum_of_money : Money → Money → Money
sum_of_money a b = record { cents = min (a.cents + b.cents) 4294967295; fits = stopped_fits (a.cents + b.cents) }

-- at most as many cents
abbrev pub at_most : Money → Money → Bool
at_most a b = nat_le a.cents b.cents

abbrev pub cents_costs : Costs Money
cents_costs = record { neutral = no_money; join = sum_of_money; le = at_most }
