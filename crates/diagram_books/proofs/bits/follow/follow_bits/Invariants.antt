use Rattle.std.proofs.Common.{◌≡◌, ◌-◌, cond, ltb}
use Rattle.node.specs.Bits.{Comes, behind, follow}
use Rattle.diagram_books.proofs.bits.follow.follow_bits.Given as goal

abbrev pub invariant-loop-r : goal.invariant-loop-r
invariant-loop-r l =
    Comes l.records l.base l.link
    × (follow l.records l.base l.end l.value l.link ≡ follow l.records l.base l.end l.value l.place)

abbrev pub decreases-loop-r : goal.decreases-loop-r
decreases-loop-r l = cond (ltb l.link 2) 0 (l.end - (behind l.records l.link).bit)
