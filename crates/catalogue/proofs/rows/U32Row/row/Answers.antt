use Rattle.std.proofs.Common.{refl}
use Rattle.catalogue.specs.Forms.{alone}
use Rattle.fault.proofs.Exits.{passed_on}
use Rattle.catalogue.proofs.Numbers.{said, unsaid}
use Rattle.catalogue.proofs.rows.U32Row.row.Goals as goal

pub returns-in_err-n : goal.returns-in_err-n
returns-in_err-n c = rw (passed_on _ _ c.from_residual.ensures) (unsaid alone 1 _ _ c.in_err-n.ensures (λ x. refl))

pub returns : goal.returns
returns c = said alone 1 _ _ _ c.in_ok-n.ensures refl
