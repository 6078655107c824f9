-- The laws of times in days.
use Rattle.std.proofs.Common.{arith}
use Rattle.std.proofs.lemmas.Bool.Decides.{nat_tests}
use Rattle.tariff.specs.Costs.{Lawful}
use Rattle.tariff.specs.Days.{days_costs}

pub days_lawful : Lawful days_costs
days_lawful = record {
  assoc = λ a b c. omega arith;
  left = λ a. omega arith;
  right = λ a. omega arith;
  total = λ a b. grind (arith, nat_tests);
  trans = λ a b c h k. grind (arith, nat_tests);
  antisym = λ a b h k. grind (arith, nat_tests);
  mono_left = λ a b c h. grind (arith, nat_tests);
  mono_right = λ a b c h. grind (arith, nat_tests);
}
