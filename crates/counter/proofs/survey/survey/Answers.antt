use Rattle.std.proofs.Common.{rules}
use Rattle.counter.proofs.Found.{surveyed}
use Rattle.counter.proofs.survey.survey.Goals as goal

pub returns : goal.returns
returns c = surveyed c.args.text.now _ _ c.take.result _ c.take.ensures c.blank.ensures (search rules)
