use Rattle.std.proofs.Common.{sym, refl, arith}
use Rattle.tariff.specs.MoneyLaws.{same_money}
use Rattle.tariff.proofs.SpecialSums.{sum_is_beyond, sum_is_parts}
use Rattle.examples.specs.Starred.{amount}
use Rattle.examples.proofs.Shown.{bit_well, column_well, column_permits, bit_permits}
use Rattle.examples.proofs.example.Goals as goal

pub returns : goal.returns
returns c = record {
  same_counts = refl;
  same_bits = refl;
  same_columns = refl;
  same_start = refl;
  bit_well = bit_well;
  column_well = column_well;
  column_permits = column_permits;
  bit_permits = bit_permits;
  cents_stop = λ a b. same_money _ _ refl;
  parts_add = λ a b c d e. sym (sum_is_parts (amount 1 900 a b) (amount 0 600 c d) (amount 1 1500 a e) (omega arith) refl refl);
  parts_beyond = λ a b c. sum_is_beyond (amount 65535 0 a b) (amount 1 0 c b) (omega arith);
}
