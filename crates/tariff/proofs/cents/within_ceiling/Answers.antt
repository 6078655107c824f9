use Rattle.std.proofs.Common.{arith}
use Rattle.std.proofs.lemmas.Bool.Decides.{nat_tests}
use Rattle.tariff.proofs.StoppedSums.{total_stops}
use Rattle.tariff.proofs.cents.within_ceiling.Goals as goal

pub returns-clause-lower : goal.returns-clause-lower
returns-clause-lower c = grind (arith, nat_tests, total_stops c.args.prices.now)
