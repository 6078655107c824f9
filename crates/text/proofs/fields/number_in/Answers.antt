use Rattle.std.proofs.Common.{◌≡◌, ◌<◌, length, get_or, arith, rules, None}
use Rattle.text.proofs.Numbers.{written, digits}
use Rattle.text.proofs.fields.number_in.Goals as goal

pub returns-in_err-value-in-48 : goal.returns-in_err-value-in-48
returns-in_err-value-in-48 c =
    let none : c.from_residual.result ≡ None = search rules in
    rw none (λ n is. let ds = digits c.args.field.now n is in grind arith)

pub returns-in_ok-value-in-48 : goal.returns-in_ok-value-in-48
returns-in_ok-value-in-48 c =
    let lead : get_or c.args.field.now 0 0 ≡ 48 → length c.args.field.now ≡ 1 = grind arith in
    let some : 0 < length c.args.field.now = grind arith in
    rw c.ok.ensures.value (written c.args.field.now c.in_ok-value-in-48.value c.try_from.result c.in_ok-value-in-48.ensures some lead c.try_from.ensures)
