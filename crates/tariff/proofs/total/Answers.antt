use Rattle.std.proofs.Common.{◌≡◌, subst, rules}
use Rattle.std.proofs.lemmas.Fn.{fold_over, slice_gives, fronts}
use Rattle.tariff.specs.Costs.{total}
use Rattle.tariff.proofs.Totals.{total_push}
use Rattle.tariff.proofs.total.Goals as goal

pub returns : goal.returns
returns g c =
    let costs = g.T.Tariff.costs in
    subst (λ l. c.fold.result ≡ total costs l) c.iter.ensures.rest
    (fold_over fronts (λ y. y.now) _ (λ ys sum. sum ≡ total costs ys) _
    (λ ys a x b f' j k. let more = total_push g.met.T.Tariff.lawful ys x.now in search rules)
    _ _ _ _ (slice_gives c.iter.result) c.neutral.ensures c.fold.ensures.ran)
