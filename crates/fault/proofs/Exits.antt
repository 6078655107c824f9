-- The exit of a `?`. Assumes nothing.
use Rattle.std.proofs.Common.{◌≡◌, ap, ◌∙◌, Result, Err}
use Rattle.std.specs.Result.{IsErr, IsErrAnd}
use Rattle.std.proofs.lemmas.Result.{err_from_is_err_and}
use Rattle.fault.specs.declared.Fault.{Fault}

-- what is answered there is the fault of the call
pub passed_on : {X : Type 0} (r : Result X Fault) (f : Fault) → IsErr r × IsErrAnd r (λ x. x ≡ f) → r ≡ Err f
passed_on r f is = let p = err_from_is_err_and r is.1 in p.1 ∙ ap Err p.2
