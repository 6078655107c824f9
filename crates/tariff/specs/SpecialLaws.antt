-- The laws of special parts.
use Rattle.std.specs.Prelude.{◌≡◌, ℕ, ◌+◌, ◌<◌, ◌≤◌, min, IsTrue, ◌⊎◌, refl}
use Rattle.std.proofs.Common.{ap, inl, inr, ⊎_elim, arith}
use mathlib.Core.HLevel.{is_prop→PathP}
use Rattle.std.proofs.Math.Bridge.{le_prop}
use Rattle.std.proofs.lemmas.Bool.{cases_lt}
use Rattle.std.proofs.lemmas.Bool.Decides.{nat_tests}
use Rattle.tariff.specs.Costs.{Lawful}
use Rattle.tariff.specs.Special.{no_parts, counted, sum_of_parts, count_then_price, specials_costs}
use Rattle.tariff.specs.declared.costs.Amount.{Amount}
use Rattle.tariff.specs.declared.costs.Special.{Special}
use Rattle.tariff.specs.declared.costs.Special.TheVariants.{Parts, Beyond}

-- as many parts at one price are one amount
pub same_amount : (a b : Amount) → a.count ≡ b.count → a.cents ≡ b.cents → a ≡ b
same_amount a b n e j = record {
  count = n j;
  cents = e j;
  few = is_prop→PathP (λ k. n k < 65536) (λ k. le_prop) a.few b.few j;
  fits = is_prop→PathP (λ k. e k < 4294967296) (λ k. le_prop) a.fits b.fits j;
}

-- a special cost as two numbers
abbrev num : Special → ℕ
num (Parts a) = a.count
num Beyond = 65536

abbrev price : Special → ℕ
price (Parts a) = a.cents
price Beyond = 0

pub same_special : (x y : Special) → num x ≡ num y → price x ≡ price y → x ≡ y
same_special (Parts a) (Parts b) n e = ap Parts (same_amount a b n e)
same_special (Parts a) Beyond n e = absurd (omega arith)
same_special Beyond (Parts b) n e = absurd (omega arith)
same_special Beyond Beyond n e = refl

-- what n parts for c cents come to, in numbers
abbrev Priced : ℕ → ℕ → Special → Type 0
Priced n c s = ((n < 65536) × (num s ≡ n) × (price s ≡ min c 4294967295)) ⊎ ((65536 ≤ n) × (num s ≡ 65536) × (price s ≡ 0))

priced : (n c : ℕ) (h : (n < 65536) ⊎ (65536 ≤ n)) → Priced n c (counted n c h)
priced n c (inl h) = inl (h, refl, refl)
priced n c (inr h) = inr (h, refl, refl)

-- what a join comes to
pub joined : (x y : Special) → Priced (num x + num y) (price x + price y) (sum_of_parts x y)
joined (Parts a) (Parts b) = priced (a.count + b.count) (a.cents + b.cents) (cases_lt (a.count + b.count) 65536)
joined (Parts a) Beyond = inr (omega arith, refl, refl)
joined Beyond (Parts b) = inr (omega arith, refl, refl)
joined Beyond Beyond = inr (omega arith, refl, refl)

-- the numbers of a cost are small, and beyond the count there is no price
abbrev Small : Special → Type 0
Small x = ((num x < 65536) × (price x < 4294967296)) ⊎ ((num x ≡ 65536) × (price x ≡ 0))

small : (x : Special) → Small x
small (Parts a) = inl (a.few, a.fits)
small Beyond = inr (refl, refl)

-- the order as one of the two numbers
abbrev Under : Special → Special → Type 0
Under x y = (num x < num y) ⊎ ((num x ≡ num y) × (price x ≤ price y))

under : (x y : Special) → IsTrue (count_then_price x y) → Under x y
under (Parts a) (Parts b) h = grind (arith, nat_tests)
under (Parts a) Beyond h = inl a.few
under Beyond (Parts b) h = grind (arith, nat_tests)
under Beyond Beyond h = inr (refl, omega arith)

within : (x y : Special) → Under x y → IsTrue (count_then_price x y)
within (Parts a) (Parts b) h = grind (arith, nat_tests)
within (Parts a) Beyond h = refl
within Beyond (Parts b) h = absurd (grind (arith, b.few))
within Beyond Beyond h = refl

lex_total : (n m c d : ℕ) → ((n < m) ⊎ ((n ≡ m) × (c ≤ d))) ⊎ ((m < n) ⊎ ((m ≡ n) × (d ≤ c)))
lex_total n m c d = grind arith

pub special_lawful : Lawful specials_costs
special_lawful = record {
  assoc = λ a b c. same_special _ _
      (grind (arith, joined a b, joined b c, joined (sum_of_parts a b) c, joined a (sum_of_parts b c)))
      (grind (arith, joined a b, joined b c, joined (sum_of_parts a b) c, joined a (sum_of_parts b c)));
  left = λ a. same_special _ _ (grind (arith, joined no_parts a, small a)) (grind (arith, joined no_parts a, small a));
  right = λ a. same_special _ _ (grind (arith, joined a no_parts, small a)) (grind (arith, joined a no_parts, small a));
  total = λ a b. ⊎_elim (λ h. inl (within a b h)) (λ h. inr (within b a h)) (lex_total (num a) (num b) (price a) (price b));
  trans = λ a b c h k. within a c (grind (arith, under a b h, under b c k));
  antisym = λ a b h k. same_special a b (grind (arith, under a b h, under b a k)) (grind (arith, under a b h, under b a k));
  mono_left = λ a b c h. within (sum_of_parts c a) (sum_of_parts c b) (grind (arith, under a b h, joined c a, joined c b));
  mono_right = λ a b c h. within (sum_of_parts a c) (sum_of_parts b c) (grind (arith, under a b h, joined a c, joined b c));
}
