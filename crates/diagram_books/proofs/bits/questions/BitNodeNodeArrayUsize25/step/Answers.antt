use Rattle.std.proofs.Common.{◌+◌, ◌<◌, get_or, sym, ap, ◌∙◌, arith}
use Rattle.node.specs.Forms.{place_of_link}
use Rattle.node.proofs.BitFollows.{linked_of}
use Rattle.node.proofs.BitLaws.{opens_some, step_by}
use Rattle.node.proofs.Widths.{valued_within, width_few, widths_more}
use Rattle.diagram_books.proofs.bits.questions.BitNodeNodeArrayUsize25.step.Goals as goal

pub follow_bits-requires : goal.follow_bits-requires
follow_bits-requires c =
    let b = c.args.diagram.now in
    let f = c.args.feature in
    let below : c.args.value < get_or b.counts.now f 0 = omega (arith, c.value_count.ensures) in
    let within = valued_within b.counts.now f c.args.value below in
    let more = widths_more b.counts.now f within in
    let few = width_few (get_or b.counts.now f 0) in
    let from = b.known f (omega arith) in
    let to = b.known (f + 1) (omega arith) in
    record {
      linked = linked_of _ _ _ b.well;
      stands = (opens_some b.records.now _ c.args.place (sym c.may_stand.ensures ∙ c.if-not-may_stand.false)).1;
      order = omega arith;
      few = omega arith;
    }

pub returns : goal.returns
returns c =
    let b = c.args.diagram.now in
    let f = c.args.feature in
    let below : c.args.value < get_or b.counts.now f 0 = omega (arith, c.value_count.ensures) in
    let within = valued_within b.counts.now f c.args.value below in
    let step = step_by _ _ _ b.well f c.args.place c.args.value _ _ within below (b.known _ (omega arith)) (b.known _ (omega arith)) (sym c.may_stand.ensures ∙ c.if-not-may_stand.false) in
    c.place_of.ensures ∙ ap place_of_link c.follow_bits.ensures ∙ step
