use Rattle.std.proofs.Common.{arith}
use Rattle.std.proofs.lemmas.Bool.Decides.{nat_tests}
use Rattle.diagram_books.proofs.Asked.{features_all, features_stop}
use Rattle.diagram_books.proofs.table.Table.ask_features.Goals as goal

pub returns-then-not-contains-2 : goal.returns-then-not-contains-2
returns-then-not-contains-2 g c =
    let t = c.args.self.now in
    let range = c.new-in-loop-feature.ensures in
    let out = rw (range.start, range.end, range.exhausted) at c.if-not-contains-2.ensures.value in
    features_stop t.source t.counts.now c.loop-feature.feature _ (grind (arith, nat_tests), grind (arith, nat_tests)) c.loop-feature-test.true c.loop-feature.invariant (λ few. grind (arith, nat_tests)) c.line-then-not-contains-2.ensures

pub returns : goal.returns
returns g c =
    let t = c.args.self.now in
    features_all t.source t.counts.now (grind (arith, nat_tests), grind (arith, nat_tests)) (λ k h. c.loop-feature.invariant k (omega arith))
