use Rattle.std.proofs.Common.{rules, arith, refl}
use Rattle.std.proofs.lemmas.Slice.Eq.{text_from_reads}
use Rattle.catalogue.proofs.Words.{said_call, unsaid_call}
use Rattle.catalogue.proofs.rows.CallRow.row.Goals as goal

pub returns-in_ok-feature-in-choose : goal.returns-in_ok-feature-in-choose
returns-in_ok-feature-in-choose c =
    said_call 2 _ c.word.new.self _ _ _ c.in_ok-word.ensures.cases (text_from_reads _ _ (search rules) (search rules)) c.in_ok-feature-in-choose.ensures refl

pub returns-in_ok-cents-in-ceiling : goal.returns-in_ok-cents-in-ceiling
returns-in_ok-cents-in-ceiling c =
    said_call 1 _ c.word.new.self _ _ _ c.in_ok-word.ensures.cases (text_from_reads _ _ (search rules) (search rules)) c.in_ok-cents-in-ceiling.ensures refl

pub returns-in_default : goal.returns-in_default
returns-in_default c =
    let word = c.in_ok-word.ensures in
    unsaid_call _ c.word.new.self _ _ word.cases word.moves.number c.ill_formed.ensures
    (record { choose = λ e. grind arith; back = λ e. grind arith; ceiling = λ e. grind arith; lift = λ e. grind arith })
