use Rattle.std.proofs.Common.{sym, ◌∙◌, arith, rules}
use Rattle.std.proofs.lemmas.List.{same_lists, get_or-map, length-map}
use Rattle.places.proofs.judge.value_counts.Goals as goal

pub returns : goal.returns
returns c =
    let items = c.map.ensures.items in
    let size = c.told-features in
    same_lists c.map.result _ (items.long ∙ sym size ∙ sym (length-map c.args.features.now (λ f. f.values)))
    (λ k e h.
    let called = items.at k (record { place = 0; length = 0; values = 0 }) e (omega arith) in
    let one = called.2 in
    rw (get_or-map (λ f. f.values) c.args.features.now k (record { place = 0; length = 0; values = 0 }) e (omega arith)) (search rules))
