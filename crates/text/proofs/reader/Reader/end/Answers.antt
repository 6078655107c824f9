use Rattle.std.proofs.Common.{length, ap, arith, length-drop}
use Rattle.text.proofs.reader.Reader.end.Goals as goal

pub returns-then-self : goal.returns-then-self
returns-then-self c = (c.wrong_end.ensures, λ e. omega (arith, ap length e, length-drop c.args.self.now.at c.args.self.now.text.now))
