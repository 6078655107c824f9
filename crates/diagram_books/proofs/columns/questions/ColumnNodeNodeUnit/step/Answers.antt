use Rattle.std.proofs.Common.{refl, arith}
use Rattle.std.proofs.lemmas.Bool.{false≢true}
use Rattle.node.proofs.ColumnLinks.{chain_on, chain_less, chain_hit, chain_miss, step_none}
use Rattle.diagram_books.proofs.Leaves.{leaf}
use Rattle.diagram_books.proofs.columns.questions.ColumnNodeNodeUnit.step.Goals as goal

pub returns-then-not-leads_to : goal.returns-then-not-leads_to
returns-then-not-leads_to c =
    step_none c.args.diagram.now.counts.now c.args.diagram.now.records.now c.args.feature c.args.place c.args.value (λ h. false≢true (c.if-not-leads_to.ensures.1 h))

pub loop-r-smaller : goal.loop-r-smaller
loop-r-smaller c =
    chain_less _ _ _ c.args.diagram.now.well c.args.feature c.args.place c.args.value c.loop-r.link c.loop-r.invariant c.in-Record.r (omega (arith, c.of.ensures))

pub loop-r-preserved : goal.loop-r-preserved
loop-r-preserved c =
    chain_on _ _ _ c.args.diagram.now.well c.args.feature c.args.place c.args.value c.loop-r.link c.loop-r.invariant c.in-Record.r (omega (arith, c.of.ensures)) c.if-record-value.false

pub returns-then-record-value : goal.returns-then-record-value
returns-then-record-value c =
    chain_hit _ _ _ c.args.diagram.now.well c.args.feature c.args.place c.args.value c.loop-r.link c.loop-r.invariant c.in-Record.r (omega (arith, c.of.ensures)) c.if-record-value.true (c.if-not-leads_to.ensures.0 refl)

pub returns-in_default : goal.returns-in_default
returns-in_default c =
    chain_miss _ _ _ c.args.diagram.now.well c.args.feature c.args.place c.args.value c.loop-r.link c.loop-r.invariant (leaf c.of.result c.loop-r.link c.of.ensures c.in_default.not-Record) (c.if-not-leads_to.ensures.0 refl)
