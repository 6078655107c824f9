-- What `take` finds with blank tables is what a survey finds. Assumes nothing.
use Rattle.std.proofs.Common.{◌≡◌, ℕ, List, Result, ⊎_elim, inl, inr}
use Rattle.fault.specs.declared.Fault.{Fault}
use Rattle.catalogue.specs.declared.entries.Contents.{Contents}
use Rattle.catalogue.specs.Content.{Tables}
use Rattle.catalogue.specs.Desk.{blank, Taken}
use Rattle.counter.specs.Surveys.{Surveyed}

pub surveyed : (bs : List ℕ) (t u : Tables) (r s : Result Contents Fault) → Taken bs t u r → t ≡ blank → r ≡ s → Surveyed bs s
surveyed bs t u r s taken from same =
    let here : Taken bs blank u s = rw (from, same) at taken in
    ⊎_elim (λ w. inl (record { short = w.short; after = u; judged = w.judged })) (λ w. inr w.too_long) here
