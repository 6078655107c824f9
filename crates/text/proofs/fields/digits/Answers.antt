use Rattle.std.proofs.Common.{◌≡◌, ◌-◌, ◌≤◌, get_or, arith}
use Rattle.std.proofs.lemmas.Str.Parse.{digit_at}
use Rattle.text.proofs.Numbers.{small, more}
use Rattle.text.proofs.fields.digits.Goals as goal

pub overflow_mul-value : goal.overflow_mul-value
overflow_mul-value c = omega (arith, small c.args.field.now c.loop-b.b-index c.loop-b.value (omega arith) (omega arith) c.loop-b.invariant)

pub overflow_add-value : goal.overflow_add-value
overflow_add-value c = omega (arith, small c.args.field.now c.loop-b.b-index c.loop-b.value (omega arith) (omega arith) c.loop-b.invariant)

pub returns-then-not-is_ascii_digit : goal.returns-then-not-is_ascii_digit
returns-then-not-is_ascii_digit c = λ ds. let h = digit_at c.args.field.now c.loop-b.b-index ds (omega arith) in grind arith

pub loop-b-preserved : goal.loop-b-preserved
loop-b-preserved c =
    let l : 48 ≤ get_or c.args.field.now c.loop-b.b-index 0 = grind arith in
    let u : get_or c.args.field.now c.loop-b.b-index 0 ≤ 57 = grind arith in
    let e : c.from.result ≡ get_or c.args.field.now c.loop-b.b-index 0 - 48 = grind arith in
    rw e (more c.args.field.now c.loop-b.b-index c.loop-b.value (omega arith) c.loop-b.invariant l u)
