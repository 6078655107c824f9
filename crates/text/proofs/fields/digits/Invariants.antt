use Rattle.text.proofs.Numbers.{Sofar}
use Rattle.text.proofs.fields.digits.Given as goal

abbrev pub invariant-loop-b : goal.invariant-loop-b
invariant-loop-b l = Sofar l.field l.b-index l.value
