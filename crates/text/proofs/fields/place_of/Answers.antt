use Rattle.std.proofs.Common.{arith, Some, None}
use Rattle.text.proofs.Cuts.{placed}
use Rattle.text.proofs.fields.place_of.Goals as goal

pub returns-then-x-b : goal.returns-then-x-b
returns-then-x-b c = placed c.args.b c.args.bytes.now (Some c.loop-n.n) (omega arith, c.loop-n.invariant, omega arith)

pub returns : goal.returns
returns c = placed c.args.b c.args.bytes.now None (λ k lt. c.loop-n.invariant k (omega arith))
