use Rattle.std.proofs.Common.{refl, arith}
use Rattle.fault.proofs.Exits.{passed_on}
use Rattle.fault.specs.Questions.{Accepts}
use Rattle.diagram_books.proofs.Asked.{records_all, records_stop}
use Rattle.diagram_books.proofs.sized.SizedTable.ask_records.Goals as goal

pub returns-in_err-ask_record : goal.returns-in_err-ask_record
returns-in_err-ask_record g c =
    let t = c.args.self.now.table in
    rw (passed_on c.from_residual.result c.in_err-ask_record.field-0.0 c.from_residual.ensures)
    (records_stop t.source t.counts.now g.N.Node.form t.records.now c.loop-i.i _ c.loop-i-test.true c.loop-i.invariant c.in_err-ask_record.ensures)

pub returns : goal.returns
returns g c =
    let t = c.args.self.now.table in
    records_all t.source t.counts.now g.N.Node.form t.records.now
    (λ k h. c.loop-i.invariant k (omega arith)) Accepts _ refl
