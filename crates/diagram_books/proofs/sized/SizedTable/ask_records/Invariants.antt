use Rattle.std.proofs.Common.{ℕ, ◌<◌}
use Rattle.diagram_books.proofs.Asked.{Fine}
use Rattle.diagram_books.proofs.sized.SizedTable.ask_records.Given as goal

abbrev pub invariant-loop-i : goal.invariant-loop-i
invariant-loop-i g l =
    let t = l.self.table in
    (k : ℕ) → k < l.i → Fine t.source t.counts.now g.N.Node.form t.records.now k
