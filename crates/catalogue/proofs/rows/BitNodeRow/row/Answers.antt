use Rattle.std.proofs.Common.{refl}
use Rattle.fault.proofs.Exits.{passed_on}
use Rattle.catalogue.specs.Content.{bit_numbers}
use Rattle.catalogue.proofs.Numbers.{said, unsaid}
use Rattle.catalogue.proofs.rows.BitNodeRow.row.Goals as goal

pub returns-in_err-bit : goal.returns-in_err-bit
returns-in_err-bit c =
    rw (passed_on _ _ c.from_residual.ensures) (unsaid bit_numbers 3 _ _ c.in_err-bit.ensures (λ x. refl))

pub returns : goal.returns
returns c = said bit_numbers 3 _ _ _ c.in_ok-bit.ensures refl
