use Rattle.std.proofs.Common.{length, refl, inl, arith}
use Rattle.fault.proofs.Exits.{passed_on}
use Rattle.fault.specs.Questions.{Accepts}
use Rattle.diagram_books.proofs.Asked.{stopped, sizes_early, sizes_late}
use Rattle.diagram_books.proofs.table.Table.ask_sizes.Goals as goal

pub returns-in_err-ask_features : goal.returns-in_err-ask_features
returns-in_err-ask_features g c =
    let t = c.args.self.now in
    rw (passed_on c.from_residual.result c.in_err-ask_features.field-0.0 c.from_residual.ensures) (sizes_early t.source t.counts.now (length t.records.now) _ c.in_err-ask_features.ensures)

pub returns-then-self-gt2046 : goal.returns-then-self-gt2046
returns-then-self-gt2046 g c =
    let t = c.args.self.now in
    sizes_late t.source t.counts.now (length t.records.now) _ c.in_ok-ask_features.ensures
    (stopped _ Accepts 2 0 c.line.result _ (λ h. omega arith) c.line.ensures)

pub returns : goal.returns
returns g c =
    let t = c.args.self.now in
    sizes_late t.source t.counts.now (length t.records.now) _ c.in_ok-ask_features.ensures (inl (c.if-self-gt2046.false, refl))
