use Rattle.catalogue.proofs.Filled.{Rows}
use Rattle.catalogue.proofs.sections.section.Given as goal

abbrev pub invariant-loop-slot : goal.invariant-loop-slot
invariant-loop-slot g l = Rows g.R.Row.form g.met.R.Row.lawful l.initial.reader l.reader l.initial.slot-items l.slot-items l.slot-index
