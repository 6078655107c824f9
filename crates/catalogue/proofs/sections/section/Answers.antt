use Rattle.std.proofs.Common.{arith}
use Rattle.std.proofs.lemmas.List.{length-take, set-get_or}
use Rattle.fault.proofs.Exits.{passed_on}
use Rattle.catalogue.proofs.Filled.{rows_more, rows_within, section_all, counts_not, rows_not}
use Rattle.catalogue.proofs.sections.section.Goals as goal

pub returns-in_err-n : goal.returns-in_err-n
returns-in_err-n g c =
    rw (passed_on c.from_residual.result c.in_err-n.field-0.0 c.from_residual.ensures) (counts_not g.R.Row.form g.met.R.Row.lawful _ _ _ c.in_err-n.ensures)

pub returns-in_err-slot : goal.returns-in_err-slot
returns-in_err-slot g c =
    let fits = c.in_ok-n.ensures.fits in
    let size = length-take c.in_ok-n.n c.args.table.now in
    rw (passed_on c.from_residual-in_err-slot.result c.in_err-slot.field-0.0 c.from_residual-in_err-slot.ensures, set-get_or) (rows_not g.R.Row.form g.met.R.Row.lawful _ _ _ _ _ _ _ _ c.in_ok-n.ensures (rows_within g.R.Row.form g.met.R.Row.lawful c.count.new.reader c.loop-slot.reader c.args.table.now c.loop-slot.slot-items c.in_ok-n.n c.loop-slot.slot-index (omega arith) fits c.loop-slot.invariant) (omega arith) c.in_err-slot.ensures)

pub loop-slot-preserved : goal.loop-slot-preserved
loop-slot-preserved g c =
    rows_more g.R.Row.form g.met.R.Row.lawful _ _ _ _ _ _ _ c.loop-slot-test.true c.loop-slot.invariant c.in_ok-slot.ensures

pub returns : goal.returns
returns g c =
    let fits = c.in_ok-n.ensures.fits in
    let size = length-take c.in_ok-n.n c.args.table.now in
    section_all g.R.Row.form g.met.R.Row.lawful c.args.reader.now c.count.new.reader c.loop-slot.reader c.args.table.now _ c.in_ok-n.n c.loop-slot.slot-index c.in_ok-n.ensures (omega arith)
    (rows_within g.R.Row.form g.met.R.Row.lawful c.count.new.reader c.loop-slot.reader c.args.table.now c.loop-slot.slot-items c.in_ok-n.n c.loop-slot.slot-index (omega arith) fits c.loop-slot.invariant)
