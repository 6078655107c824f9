use Rattle.std.proofs.Common.{[], ◌∷◌, decimal}
use Rattle.fault.proofs.Exits.{passed_on}
use Rattle.catalogue.proofs.Words.{said_feature, unsaid_values}
use Rattle.catalogue.proofs.rows.FeatureRow.row.Goals as goal

pub returns-in_err-name : goal.returns-in_err-name
returns-in_err-name c =
    let found = c.in_err-name.ensures in
    rw (passed_on _ _ c.from_residual.ensures) (record { is = found.cases.0; never = λ x good e. found.cases.1 x.name (decimal x.values ∷ []) good.0 e })

pub returns-in_err-values : goal.returns-in_err-values
returns-in_err-values c =
    let name = c.in_ok-name.ensures in
    rw (passed_on _ _ c.from_residual-in_err-values.ensures) (unsaid_values _ c.name.new.self _ _ name.cases.1 name.moves.number c.in_err-values.ensures)

pub returns : goal.returns
returns c =
    let name = c.in_ok-name.ensures in
    said_feature _ c.name.new.self _ _ name.cases.0 name.cases.1 name.moves.start c.in_ok-values.ensures
