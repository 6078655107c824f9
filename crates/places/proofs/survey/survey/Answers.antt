use Rattle.std.proofs.Common.{ap, ◌∙◌, ⊎_elim, inl, inr}
use Rattle.fault.proofs.Exits.{passed_on}
use Rattle.fault.specs.Questions.{refusal}
use Rattle.places.proofs.Found.{asked_of, records_at_most, taken_short}
use Rattle.places.proofs.survey.survey.Goals as goal

pub returns-in_err-contents : goal.returns-in_err-contents
returns-in_err-contents c =
    let e = passed_on c.from_residual.result c.in_err-contents.field-0.0 c.from_residual.ensures in
    ⊎_elim
    (λ w. inr (inl (record { short = w.short; after = _; fault = _; denied = w.judged; is = e })))
    (λ w. inr (inr (record { long = w.too_long.long; refused = ap refusal e ∙ w.too_long.refused })))
    (rw c.blank-tables.ensures at c.in_err-contents.ensures)

pub judge-requires-clause-few_records : goal.judge-requires-clause-few_records
judge-requires-clause-few_records c =
    records_at_most _ _ _ (taken_short _ _ _ _ (rw c.blank-tables.ensures at c.in_ok-contents.ensures)).judged

pub returns : goal.returns
returns c =
    let w = taken_short _ _ _ _ (rw c.blank-tables.ensures at c.in_ok-contents.ensures) in
    inl (record {
      short = w.short;
      after = _;
      contents = c.in_ok-contents.contents;
      accepted = w.judged;
      asked = asked_of _ _ _ w.judged _ c.judge.ensures.asked;
      places = c.judge.ensures.places;
    })
