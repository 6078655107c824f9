-- Special parts with their price.
use Rattle.std.specs.Prelude.{ℕ, ◌+◌, ◌<◌, ◌≤◌, min, Bool, true, false, ◌&&◌, ◌||◌, ◌⊎◌, ◌==◌, nat_le, nat_lt}
use Rattle.std.proofs.Common.{inl, inr, lit<}
use Rattle.std.proofs.lemmas.Bool.{cases_lt}
use Rattle.tariff.specs.Costs.{Costs}
use Rattle.tariff.specs.Money.{stopped_fits}
use Rattle.tariff.specs.declared.costs.Special.{Special}
use Rattle.tariff.specs.declared.costs.Special.TheVariants.{Parts, Beyond}

abbrev pub no_parts : Special
no_parts = Parts (record { count = 0; cents = 0; few = lit< tt; fits = lit< tt })

-- n parts for c cents, the cents stopped at the largest; beyond where n is more than are counted
abbrev pub counted : (n c : ℕ) → (n < 65536) ⊎ (65536 ≤ n) → Special
counted n c (inl few) = Parts (record { count = n; cents = min c 4294967295; few = few; fits = stopped_fits c })
counted n c (inr many) = Beyond

-- both counts and both prices added
abbrev pub sum_of_parts : Special → Special → Special
sum_of_parts (Parts a) (Parts b) = counted (a.count + b.count) (a.cents + b.cents) (cases_lt (a.count + b.count) 65536)
sum_of_parts (Parts a) Beyond = Beyond
sum_of_parts Beyond (Parts b) = Beyond
sum_of_parts Beyond Beyond = Beyond

-- by count, then by price; beyond is dearest
abbrev pub count_then_price : Special → Special → Bool
count_then_price (Parts a) (Parts b) = nat_lt a.count b.count || (a.count == b.count && nat_le a.cents b.cents)
count_then_price (Parts a) Beyond = true
count_then_price Beyond (Parts b) = false
count_then_price Beyond Beyond = true

abbrev pub specials_costs : Costs Special
specials_costs = record { neutral = no_parts; join = sum_of_parts; le = count_then_price }
