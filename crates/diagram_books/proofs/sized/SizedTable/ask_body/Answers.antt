use Rattle.std.proofs.Common.{refl, inl}
use Rattle.fault.proofs.Exits.{passed_on}
use Rattle.std.proofs.lemmas.Bool.{both_ways}
use Rattle.fault.specs.Questions.{Accepts}
use Rattle.diagram_books.proofs.Asked.{stopped, body_early, body_late}
use Rattle.diagram_books.proofs.sized.SizedTable.ask_body.Goals as goal

pub returns-in_err-ask_records : goal.returns-in_err-ask_records
returns-in_err-ask_records g c =
    let t = c.args.self.now.table in
    rw (passed_on c.from_residual.result c.in_err-ask_records.field-0.0 c.from_residual.ensures) (body_early t.source t.counts.now g.N.Node.form t.records.now t.start _ c.in_err-ask_records.ensures)

pub returns-then-not-starts : goal.returns-then-not-starts
returns-then-not-starts g c =
    let t = c.args.self.now.table in
    body_late t.source t.counts.now g.N.Node.form t.records.now t.start _ c.in_ok-ask_records.ensures
    (stopped _ Accepts 5 0 c.line.result _ (λ h. both_ways c.starts.result c.if-not-starts.true (c.starts.ensures.1 h)) c.line.ensures)

pub returns : goal.returns
returns g c =
    let t = c.args.self.now.table in
    body_late t.source t.counts.now g.N.Node.form t.records.now t.start _ c.in_ok-ask_records.ensures
    (inl (c.starts.ensures.0 c.if-not-starts.false, refl))
