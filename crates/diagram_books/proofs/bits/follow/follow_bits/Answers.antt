use Rattle.std.proofs.Common.{get_or, arith}
use Rattle.node.specs.Bits.{blank}
use Rattle.node.proofs.BitFollows.{follow_again, follow_end, picked_high, picked_low}
use Rattle.diagram_books.proofs.bits.follow.follow_bits.Goals as goal

pub loop-r-preserved-then-high : goal.loop-r-preserved-then-high
loop-r-preserved-then-high c =
    let l = c.loop-r in
    follow_again c.args.records.now c.args.base c.args.end c.args.value c.requires.linked l.link c.in-Record.r _ _ (omega (arith, c.of.ensures)) c.requires.order l.invariant.0 c.if-bit-end.false (picked_high (get_or c.args.records.now c.in-Record.r blank) _ c.if-high.true) l.invariant.1

pub loop-r-preserved : goal.loop-r-preserved
loop-r-preserved c =
    let l = c.loop-r in
    follow_again c.args.records.now c.args.base c.args.end c.args.value c.requires.linked l.link c.in-Record.r _ _ (omega (arith, c.of.ensures)) c.requires.order l.invariant.0 c.if-bit-end.false (picked_low (get_or c.args.records.now c.in-Record.r blank) _ c.if-high.false) l.invariant.1

pub returns-then-bit-end : goal.returns-then-bit-end
returns-then-bit-end c =
    let l = c.loop-r in
    follow_end c.args.records.now c.args.base c.args.end c.args.value l.link c.in-Record.r _ (omega (arith, c.of.ensures)) c.if-bit-end.true l.invariant.1
