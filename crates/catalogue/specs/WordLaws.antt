-- Lines that begin with a word or a name tell what they say: the proofs of the laws that their impls show.
use Rattle.std.specs.Prelude.{◌≡◌, ℕ, [], ◌∷◌, map, length, codes, decimal, refl}
use Rattle.std.proofs.Common.{ap, arith, rules}
use Rattle.std.specs.List.{AllByRecursion}
use Rattle.text.specs.Fields.{Small, IsName}
use Rattle.text.proofs.Plain.{lacks_name}
use Rattle.catalogue.specs.declared.entries.Call.{Call}
use Rattle.catalogue.specs.declared.entries.Call.TheVariants.{Choose, Back, Ceiling, Lift}
use Rattle.catalogue.specs.declared.entries.Kind.{Kind}
use Rattle.catalogue.specs.declared.entries.Kind.TheVariants.{Bit, Column}
use Rattle.catalogue.specs.Forms.{Plain, Lawful}
use Rattle.catalogue.specs.Content.{kind_name, kind_form, one_form, Named, feature_form, call_word, call_numbers, call_form}
use Rattle.catalogue.specs.NumberLaws.{plain_number, plain_numbers, same_number, same_numbers}

kind_plain : (k : Kind) → Plain (kind_name k)
kind_plain Bit = search rules
kind_plain Column = search rules

kind_one : (k l : Kind) → kind_name k ∷ [] ≡ kind_name l ∷ [] → k ≡ l
kind_one Bit Bit e = refl
kind_one Bit Column e = absurd (let z : ◌≡◌ {A = ℕ} 66 67 = cc in omega arith)
kind_one Column Bit e = absurd (let z : ◌≡◌ {A = ℕ} 67 66 = cc in omega arith)
kind_one Column Column e = refl

pub kind_lawful : Lawful kind_form
kind_lawful = record { example = Bit; example_good = tt; plain = λ k ok. (kind_plain k, tt); one = λ k l okk okl e. kind_one k l e }

pub one_lawful : Lawful one_form
one_lawful = record { example = record {}; example_good = tt; plain = λ o ok. (plain_number 1 (omega arith), tt); one = λ o p oko okp e. refl }

feature_one : (x y : Named) → IsName x.name × Small x.values → IsName y.name × Small y.values → feature_form.fields x ≡ feature_form.fields y → x ≡ y
feature_one x y okx oky e =
    let name : x.name ≡ y.name = cc in
    let field : decimal x.values ≡ decimal y.values = cc in
    let values = same_number x.values y.values okx.1 oky.1 field in
    λ i. record { name = name i; values = values i }

pub feature_lawful : Lawful feature_form
feature_lawful = record {
  example = record { name = codes "a"; values = 0 };
  example_good = (search rules, omega arith);
  plain = λ x ok. ((lacks_name 32 x.name (omega arith) ok.0, lacks_name 10 x.name (omega arith) ok.0), (plain_number x.values ok.1, tt));
  one = feature_one;
}

plain_call_word : (x : Call) → Plain (call_word x)
plain_call_word (Choose f v) = search rules
plain_call_word (Back f) = search rules
plain_call_word (Ceiling c) = search rules
plain_call_word Lift = search rules

call_one : (x y : Call) → call_word x ≡ call_word y → call_numbers x ≡ call_numbers y → x ≡ y
call_one (Choose f v) (Choose g w) word numbers = let a : f ≡ g = cc in let b : v ≡ w = cc in λ i. Choose (a i) (b i)
call_one (Choose f v) (Back g) word numbers = absurd (omega (arith, ap length word))
call_one (Choose f v) (Ceiling c) word numbers = absurd (omega (arith, ap length word))
call_one (Choose f v) Lift word numbers = absurd (omega (arith, ap length word))
call_one (Back f) (Choose g w) word numbers = absurd (omega (arith, ap length word))
call_one (Back f) (Back g) word numbers = let a : f ≡ g = cc in ap Back a
call_one (Back f) (Ceiling c) word numbers = absurd (omega (arith, ap length word))
call_one (Back f) Lift word numbers = absurd (omega (arith, ap length numbers))
call_one (Ceiling c) (Choose g w) word numbers = absurd (omega (arith, ap length word))
call_one (Ceiling c) (Back g) word numbers = absurd (omega (arith, ap length word))
call_one (Ceiling c) (Ceiling d) word numbers = let a : c ≡ d = cc in ap Ceiling a
call_one (Ceiling c) Lift word numbers = absurd (omega (arith, ap length word))
call_one Lift (Choose g w) word numbers = absurd (omega (arith, ap length word))
call_one Lift (Back g) word numbers = absurd (omega (arith, ap length numbers))
call_one Lift (Ceiling c) word numbers = absurd (omega (arith, ap length word))
call_one Lift Lift word numbers = refl

call_fields : (x y : Call) → AllByRecursion Small (call_numbers x) → AllByRecursion Small (call_numbers y) → call_form.fields x ≡ call_form.fields y → x ≡ y
call_fields x y okx oky e =
    let word : call_word x ≡ call_word y = cc in
    let rest : map decimal (call_numbers x) ≡ map decimal (call_numbers y) = cc in
    call_one x y word (same_numbers (call_numbers x) (call_numbers y) okx oky rest)

pub call_lawful : Lawful call_form
call_lawful = record { example = Lift; example_good = tt; plain = λ x ok. (plain_call_word x, plain_numbers (call_numbers x) ok); one = call_fields }
