use Rattle.std.proofs.lemmas.Result.{MatchResult-weaker}
use Rattle.fault.proofs.Exits.{passed_on}
use Rattle.catalogue.proofs.Lines.{absent, line_refused, entered, not_entered}
use Rattle.catalogue.proofs.sections.entry.Goals as goal

pub returns-in_err-line : goal.returns-in_err-line
returns-in_err-line g c =
    let found = c.in_err-line.ensures in
    rw (passed_on _ _ c.from_residual.ensures) (line_refused g.R.Row.form g.met.R.Row.lawful _ _ _ (record { number = 16; broken = absent found.1; is = found.0 }))

pub returns : goal.returns
returns g c =
    let cut = c.in_ok-line.ensures in
    MatchResult-weaker c.row.result c.row.ensures
    (λ e said. entered g.R.Row.form g.met.R.Row.lawful _ _ _ e cut said)
    (λ f unsaid. line_refused g.R.Row.form g.met.R.Row.lawful _ _ f (not_entered g.R.Row.form g.met.R.Row.lawful _ _ _ f cut unsaid))
