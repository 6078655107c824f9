use Rattle.std.proofs.Common.{rules}
use Rattle.node.proofs.Widths.{fewest}
use Rattle.diagram_books.proofs.bits.widths.bit_width.Goals as goal

pub returns-in-3-to-4-clause-fewest : goal.returns-in-3-to-4-clause-fewest
returns-in-3-to-4-clause-fewest c = fewest c.args.values 2 (search rules)

pub returns-in-5-to-8-clause-fewest : goal.returns-in-5-to-8-clause-fewest
returns-in-5-to-8-clause-fewest c = fewest c.args.values 3 (search rules)

pub returns-in_default-clause-fewest : goal.returns-in_default-clause-fewest
returns-in_default-clause-fewest c = fewest c.args.values 4 (search rules)
