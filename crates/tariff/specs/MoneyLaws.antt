-- The laws of prices in cents.
use Rattle.std.specs.Prelude.{◌≡◌, ◌<◌}
use Rattle.std.proofs.Common.{arith}
use mathlib.Core.HLevel.{is_prop→PathP}
use Rattle.std.proofs.Math.Bridge.{le_prop}
use Rattle.std.proofs.lemmas.Bool.Decides.{nat_tests}
use Rattle.tariff.specs.Costs.{Lawful}
use Rattle.tariff.specs.Money.{cents_costs}
use Rattle.tariff.specs.declared.costs.Money.{Money}

-- two amounts of as many cents are one
pub same_money : (a b : Money) → a.cents ≡ b.cents → a ≡ b
same_money a b e j = record {
  cents = e j;
  fits = is_prop→PathP (λ k. e k < 4294967296) (λ k. le_prop) a.fits b.fits j;
}

pub money_lawful : Lawful cents_costs
money_lawful = record {
  assoc = λ a b c. same_money _ _ (omega arith);
  left = λ a. same_money _ _ (omega (arith, a.fits));
  right = λ a. same_money _ _ (omega (arith, a.fits));
  total = λ a b. grind (arith, nat_tests);
  trans = λ a b c h k. grind (arith, nat_tests);
  antisym = λ a b h k. same_money _ _ (grind (arith, nat_tests));
  mono_left = λ a b c h. grind (arith, nat_tests);
  mono_right = λ a b c h. grind (arith, nat_tests);
}
