use Rattle.fault.proofs.Exits.{passed_on}
use Rattle.fault.specs.Questions.{Accepts}
use Rattle.diagram_books.proofs.Asked.{sizes_pass, table_early, table_late, table_well}
use Rattle.diagram_books.proofs.table.Table.check.Goals as goal

pub returns-in_err-ask_sizes-clause-asked : goal.returns-in_err-ask_sizes-clause-asked
returns-in_err-ask_sizes-clause-asked g c =
    let t = c.args.self in
    rw (passed_on c.from_residual.result c.in_err-ask_sizes.field-0.0 c.from_residual.ensures) (table_early t.source t.counts.now g.N.Node.form t.records.now t.start _ c.in_err-ask_sizes.ensures)

pub invariant_of-ask_body : goal.invariant_of-ask_body
invariant_of-ask_body g c =
    let t = c.args.self in
    let p = sizes_pass t.source t.counts.now _ Accepts c.in_ok-ask_sizes.ensures in
    record { few_features = p.0.1; few_records = p.2; known = c.index-index.ensures }

pub returns-in_err-ask_body-clause-asked : goal.returns-in_err-ask_body-clause-asked
returns-in_err-ask_body-clause-asked g c =
    let t = c.args.self in
    rw (passed_on c.from_residual-in_err-ask_body.result c.in_err-ask_body.field-0.0 c.from_residual-in_err-ask_body.ensures)
    (table_late t.source t.counts.now g.N.Node.form t.records.now t.start _ c.in_ok-ask_sizes.ensures c.in_err-ask_body.ensures)

pub invariant_of-result : goal.invariant_of-result
invariant_of-result g c =
    let t = c.args.self in
    let asked = table_late t.source t.counts.now g.N.Node.form t.records.now t.start _ c.in_ok-ask_sizes.ensures c.in_ok-ask_body.ensures in
    record { well = table_well t.source t.counts.now g.N.Node.form t.records.now t.start asked; known = c.index-index.ensures }

pub returns-clause-asked : goal.returns-clause-asked
returns-clause-asked g c =
    let t = c.args.self in
    table_late t.source t.counts.now g.N.Node.form t.records.now t.start _ c.in_ok-ask_sizes.ensures c.in_ok-ask_body.ensures
