-- What two amounts come to.
use Rattle.std.proofs.Common.{◌≡◌, ◌+◌, ◌<◌, ◌≤◌, min, arith}
use Rattle.tariff.specs.Special.{sum_of_parts}
use Rattle.tariff.specs.SpecialLaws.{same_special, joined}
use Rattle.tariff.specs.declared.costs.Amount.{Amount}
use Rattle.tariff.specs.declared.costs.Special.TheVariants.{Parts, Beyond}

-- an amount that is the sum of two, where they are few enough
pub sum_is_parts : (x y r : Amount) → x.count + y.count < 65536 → r.count ≡ x.count + y.count → r.cents ≡ min (x.cents + y.cents) 4294967295 → Parts r ≡ sum_of_parts (Parts x) (Parts y)
sum_is_parts x y r h n e = same_special _ _ (grind (arith, joined (Parts x) (Parts y))) (grind (arith, joined (Parts x) (Parts y)))

-- too many parts are beyond
pub sum_is_beyond : (x y : Amount) → 65536 ≤ x.count + y.count → sum_of_parts (Parts x) (Parts y) ≡ Beyond
sum_is_beyond x y h = same_special _ Beyond (grind (arith, joined (Parts x) (Parts y))) (grind (arith, joined (Parts x) (Parts y)))
