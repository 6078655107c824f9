use Rattle.std.proofs.Common.{take, ap, ◌∙◌}
use Rattle.places.proofs.judge.judge.Goals as goal

pub returns-in-Bit-clause-asked : goal.returns-in-Bit-clause-asked
returns-in-Bit-clause-asked c =
    let t = c.new-table.ensures in
    let counts = t.counts ∙ ap (take c.args.contents.now.features) c.value_counts-counts.ensures in
    rw (c.places_of.ensures.refused, c.in-Bit.is, ← counts, ← t.records) (rw (t.source, t.start) at c.check.ensures.asked)

pub returns-in-Column-clause-asked : goal.returns-in-Column-clause-asked
returns-in-Column-clause-asked c =
    let t = c.new-table-in-Column.ensures in
    let counts = t.counts ∙ ap (take c.args.contents.now.features) c.value_counts-counts.ensures in
    rw (c.places_of-in-Column.ensures.refused, c.in-Column.is, ← counts, ← t.records) (rw (t.source, t.start) at c.check-in-Column.ensures.asked)
