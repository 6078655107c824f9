use Rattle.std.proofs.Common.{refl, ap}
use Rattle.tariff.specs.declared.costs.Special.TheVariants.{Parts}
use Rattle.tariff.specs.SpecialLaws.{same_amount}
use Rattle.tariff.proofs.specials.SpecialsTariff.neutral.Goals as goal

pub returns : goal.returns
returns c = ap Parts (same_amount _ _ refl refl)
