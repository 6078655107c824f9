-- How a number is written, and when a field is no number. Assumes nothing.
use Rattle.std.proofs.Common.{◌≡◌, ℕ, ◌+◌, ◌-◌, ◌*◌, ◌^◌, ◌<◌, ◌≤◌, ◌⊎◌, List, length, get_or, take, decimal, sym, refl, ap, ◌∙◌, subst, ⊎_elim, arith, length-take-le, Ok, Err, Result}
use native.Mathlib.Nat.{pow-le-pow_right}
use Rattle.std.specs.Str.Parse.{AllDigits, digits_value}
use Rattle.std.specs.Char.{digit_value as digitValue}
use Rattle.std.specs.Int.{IsInRange}
use Rattle.std.proofs.lemmas.Int.Digits.{digits_value-lt, digits_value_more, digits_more}
use Rattle.std.proofs.lemmas.Str.Parse.{IsNumeralModel, numerals_by_value, tells_digits, digit_at}
use Rattle.std.proofs.lemmas.Fmt.{decimal-digits_value, digits_decimal, digits_value-decimal, decimal_nonempty, length-decimal-le, first_decimal, decimal_digit}
use Rattle.std.proofs.lemmas.Bool.{cases_lt}
use Rattle.std.proofs.lemmas.Bool.Decides.{nat_tests}
use Rattle.std.specs.Option.{MatchOption}
use Rattle.std.specs.Result.{OkIff, result_ok}
use Rattle.text.specs.Fields.{IsNumber}

own : IsNumeralModel (AllDigits 10) (digits_value 10)
own = numerals_by_value (AllDigits 10) tells_digits

wide : (n : ℕ) → n < 2 ^ 32 → n < 2 ^ 64
wide n h = omega arith

-- what the first i bytes write
pub record Sofar (bs : List ℕ) (i v : ℕ) : Type 0 where
  pub digits : AllDigits 10 (take i bs)
  pub is : v ≡ digits_value 10 (take i bs)

pub start : (bs : List ℕ) → Sofar bs 0 0
start bs = record { digits = tt; is = refl }

pub small : (bs : List ℕ) (i v : ℕ) → i < length bs → length bs ≤ 10 → Sofar bs i v → v < 10 ^ 9
small bs i v lt le s =
    let a : v < 10 ^ length (take i bs) = subst (λ n. n < 10 ^ length (take i bs)) (sym s.is) (digits_value-lt 10 (take i bs) s.digits) in
    let e : length (take i bs) ≡ i = length-take-le i bs (omega arith) in
    let p : 10 ^ length (take i bs) ≤ 10 ^ 9 = pow-le-pow_right {n = 10} (omega arith) {i = length (take i bs)} {j = 9} (omega arith) in
    omega arith

digit_value : (c : ℕ) → 48 ≤ c → c ≤ 57 → digitValue c ≡ c - 48
digit_value c l u = grind (arith, nat_tests)

pub more : (bs : List ℕ) (i v : ℕ) → i < length bs → Sofar bs i v → 48 ≤ get_or bs i 0 → get_or bs i 0 ≤ 57 → Sofar bs (i + 1) (v * 10 + (get_or bs i 0 - 48))
more bs i v lt s l u =
    let d = digit_value (get_or bs i 0) l u in
    record {
      digits = digits_more 10 bs i lt s.digits (omega (arith, d));
      is = simp (digits_value_more 10 bs i lt, d, ← s.is);
    }

module _ (bs : List ℕ) (n : ℕ) (is : IsNumber n bs) where
  pub some : 0 < length bs
  some = omega (arith, ap length is.1, decimal_nonempty n (wide n is.0))

  pub short : length bs ≤ 10
  short = omega (arith, ap length is.1, length-decimal-le 10 n (omega arith) (omega (arith, is.0)) (wide n is.0))

  pub no_lead : get_or bs 0 0 ≡ 48 → length bs ≡ 1
  no_lead z =
      ⊎_elim
      (λ (h : 0 < n). absurd (omega (arith, z, ap (λ l. get_or l 0 0) is.1, first_decimal n h (wide n is.0))))
      (λ (h : n ≤ 0). ap length (is.1 ∙ decimal_digit n (omega arith)))
      (cases_lt 0 n)

  pub digit : (i : ℕ) → i < length bs → IsInRange 48 57 (get_or bs i 0)
  digit i lt = digit_at bs i (subst (AllDigits 10) (sym is.1) (digits_decimal own n (wide n is.0))) lt

  -- the only number that begins with 0 is 0
  pub begins : ((length bs ≡ 1) × (get_or bs 0 0 ≡ 48)) ⊎ ((0 < length bs) × (49 ≤ get_or bs 0 0) × (get_or bs 0 0 ≤ 57))
  begins =
      let long = some in
      let first = digit 0 some in
      let alone = no_lead in
      grind arith

  pub value_is : digits_value 10 bs ≡ n
  value_is = ap (digits_value 10) is.1 ∙ digits_value-decimal own n (wide n is.0)

  pub digits : AllDigits 10 bs
  digits = subst (AllDigits 10) (sym is.1) (digits_decimal own n (wide n is.0))

-- the number that digits with no leading zero write, if it is small
pub written : {E : Type 0} (bs : List ℕ) (v : ℕ) (r : Result ℕ E) → AllDigits 10 bs × (v ≡ digits_value 10 bs) → 0 < length bs → (get_or bs 0 0 ≡ 48 → length bs ≡ 1) → OkIff r (v < 2 ^ 32) v → MatchOption (result_ok r) ((n : ℕ) → IsNumber n bs → ⊥) (λ n. IsNumber n bs)
written bs v (Ok n) (ds, e) some lead h =
    let lt : digits_value 10 bs < 2 ^ 32 = omega (arith, e, h.0) in
    (omega (arith, h.0, h.1), sym (decimal-digits_value own bs ds some lead (wide (digits_value 10 bs) lt)) ∙ ap decimal (sym (h.1 ∙ e)))
written bs v (Err _) (ds, e) some lead h = λ n is. h (omega (arith, e, value_is bs n is, is.0))
