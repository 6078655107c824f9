use Rattle.std.proofs.Common.{refl}
use Rattle.fault.proofs.Exits.{passed_on}
use Rattle.catalogue.specs.Content.{column_numbers}
use Rattle.catalogue.proofs.Numbers.{said, unsaid}
use Rattle.catalogue.proofs.rows.ColumnNodeRow.row.Goals as goal

pub returns-in_err-column : goal.returns-in_err-column
returns-in_err-column c =
    rw (passed_on _ _ c.from_residual.ensures) (unsaid column_numbers 4 _ _ c.in_err-column.ensures (λ x. refl))

pub returns : goal.returns
returns c = said column_numbers 4 _ _ _ c.in_ok-column.ensures refl
