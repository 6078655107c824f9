use Rattle.std.proofs.Common.{get_or, arith, length-set}
use Rattle.node.proofs.Widths.{base_few, bases_more, width_few, widths_more}
use Rattle.diagram_books.proofs.bits.widths.bit_bases.Goals as goal

pub overflow_add-base : goal.overflow_add-base
overflow_add-base c = grind (arith, base_few c.args.counts.now c.loop-i.i, width_few (get_or c.args.counts.now c.loop-i.i 0))

pub loop-i-preserved : goal.loop-i-preserved
loop-i-preserved c = grind (arith, widths_more, bases_more, length-set)
