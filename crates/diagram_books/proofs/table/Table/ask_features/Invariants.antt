use Rattle.std.proofs.Common.{ℕ, ◌<◌, get_or}
use Rattle.node.specs.Forms.{FewValues}
use Rattle.diagram_books.proofs.table.Table.ask_features.Given as goal

abbrev pub invariant-loop-feature : goal.invariant-loop-feature
invariant-loop-feature g l = (k : ℕ) → k < l.feature → FewValues (get_or l.self.counts.now k 0)
