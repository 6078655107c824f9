use Rattle.std.proofs.Common.{arith}
use Rattle.fault.proofs.Exits.{passed_on}
use Rattle.catalogue.proofs.Words.{unsaid_one, unsaid_other}
use Rattle.catalogue.proofs.rows.OneRow.row.Goals as goal

pub returns-in_err-row : goal.returns-in_err-row
returns-in_err-row c =
    rw (passed_on _ _ c.from_residual.ensures) (unsaid_one _ _ c.in_err-row.ensures)

pub returns-in_default : goal.returns-in_default
returns-in_default c = unsaid_other _ _ _ c.ill_formed.ensures c.in_ok-row.ensures (λ e. omega arith)
