use Rattle.node.proofs.ColumnLinks.{OnChain, left_at}
use Rattle.diagram_books.proofs.columns.questions.ColumnNodeNodeUnit.step.Given as goal

abbrev pub invariant-loop-r : goal.invariant-loop-r
invariant-loop-r l = OnChain l.diagram.counts.now l.records l.feature l.place l.value l.link

abbrev pub decreases-loop-r : goal.decreases-loop-r
decreases-loop-r l = left_at l.diagram.counts.now l.records l.feature l.link
