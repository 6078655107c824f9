-- Rows of numbers tell what they say: the proofs of the laws that their impls show.
use Rattle.std.specs.Prelude.{◌≡◌, ℕ, ◌<◌, List, [], ◌∷◌, map, length, decimal, refl}
use Rattle.std.proofs.Common.{arith}
use Rattle.std.specs.List.{AllByRecursion}
use Rattle.std.proofs.lemmas.Fmt.{decimal_injective}
use Rattle.text.specs.Fields.{Small}
use Rattle.text.proofs.Plain.{lacks_number}
use Rattle.catalogue.specs.Forms.{Plain, SomePlain, Lawful, numbers_form, alone, number_form}
use Rattle.catalogue.specs.Content.{bit_numbers, bit_form, column_numbers, column_form}

pub plain_number : (n : ℕ) → Small n → Plain (decimal n)
plain_number n small = (lacks_number 32 n (omega arith) small, lacks_number 10 n (omega arith) small)

pub plain_numbers : (ns : List ℕ) → AllByRecursion Small ns → AllByRecursion Plain (map decimal ns)
plain_numbers [] small = tt
plain_numbers (n ∷ ns) small = (plain_number n small.0, plain_numbers ns small.1)

pub same_number : (m n : ℕ) → Small m → Small n → decimal m ≡ decimal n → m ≡ n
same_number m n hm hn e = decimal_injective m n (omega arith) (omega arith) e

pub same_numbers : (ms ns : List ℕ) → AllByRecursion Small ms → AllByRecursion Small ns → map decimal ms ≡ map decimal ns → ms ≡ ns
same_numbers [] [] hm hn e = refl
same_numbers [] (n ∷ ns) hm hn e = absurd (let z : ◌≡◌ {A = ℕ} 0 1 = cc in omega arith)
same_numbers (m ∷ ms) [] hm hn e = absurd (let z : ◌≡◌ {A = ℕ} 0 1 = cc in omega arith)
same_numbers (m ∷ ms) (n ∷ ns) hm hn e =
    let head : decimal m ≡ decimal n = cc in
    let tail : map decimal ms ≡ map decimal ns = cc in
    let p = same_number m n hm.0 hn.0 head in
    let q = same_numbers ms ns hm.1 hn.1 tail in
    λ i. p i ∷ q i

module _ {E : Type 0} (numbers : E → List ℕ) where
  some_plain : (ns : List ℕ) → 0 < length ns → AllByRecursion Small ns → SomePlain (map decimal ns)
  some_plain [] some small = absurd (omega arith)
  some_plain (n ∷ ns) some small = plain_numbers (n ∷ ns) small

  pub lawful : (example : E) → AllByRecursion Small (numbers example) → ((x : E) → 0 < length (numbers x)) → ((x y : E) → numbers x ≡ numbers y → x ≡ y) → Lawful (numbers_form numbers)
  lawful example good some one = record {
    example = example;
    example_good = good;
    plain = λ x ok. some_plain (numbers x) (some x) ok;
    one = λ x y okx oky e. one x y (same_numbers (numbers x) (numbers y) okx oky e);
  }

pub number_lawful : Lawful number_form
number_lawful = lawful alone 0 (omega arith, tt) (λ n. omega arith) (λ m n e. cc)

pub bit_lawful : Lawful bit_form
bit_lawful =
    lawful bit_numbers (record { bit = 0; low = 0; high = 0 }) (omega arith, (omega arith, (omega arith, tt))) (λ x. omega arith)
    (λ x y e.
    let bit : x.bit ≡ y.bit = cc in
    let low : x.low ≡ y.low = cc in
    let high : x.high ≡ y.high = cc in
    λ i. record { bit = bit i; low = low i; high = high i })

pub column_lawful : Lawful column_form
column_lawful =
    lawful column_numbers (record { column = 0; value = 0; high = 0; low = 0 }) (omega arith, (omega arith, (omega arith, (omega arith, tt)))) (λ x. omega arith)
    (λ x y e.
    let column : x.column ≡ y.column = cc in
    let value : x.value ≡ y.value = cc in
    let high : x.high ≡ y.high = cc in
    let low : x.low ≡ y.low = cc in
    λ i. record { column = column i; value = value i; high = high i; low = low i })
