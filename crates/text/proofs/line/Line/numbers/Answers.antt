use Rattle.std.proofs.Common.{◌≡◌, length, take, sym, ap, ◌∙◌, arith, length-take-le}
use Rattle.fault.proofs.Exits.{passed_on}
use Rattle.fault.specs.Told.{file_fault}
use Rattle.text.proofs.Rows.{next_number}
use Rattle.text.proofs.line.Line.numbers.Goals as goal

pub returns-in_err-n : goal.returns-in_err-n
returns-in_err-n g c =
    let found = c.in_err-n.ensures in
    let begun = c.loop-n.invariant in
    let seen : length (take c.loop-n.n-index c.loop-n.n-items) ≡ c.loop-n.n-index = length-take-le c.loop-n.n-index c.loop-n.n-items (omega arith) in
    rw (passed_on c.from_residual.result c.in_err-n.field-0.0 c.from_residual.ensures) (found.cases.0 ∙ ap (file_fault 15) begun.number, λ ns long small is. next_number (take c.loop-n.n-index c.loop-n.n-items) ns _ (omega arith) small found.cases.1 (sym begun.fields ∙ is))
