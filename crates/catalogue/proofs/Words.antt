-- Lines that begin with a word or a name. Assumes nothing.
use Rattle.std.specs.Prelude.{◌≡◌, ℕ, List, [], ◌∷◌, map, length, codes, decimal, ◌≢◌, slice_index, refl}
use Rattle.std.proofs.Common.{ap, subst, ◌∙◌, arith}
use Rattle.std.specs.List.{range_with_len, AllByRecursion}
use Rattle.fault.specs.declared.Fault.{Fault}
use Rattle.fault.specs.Told.{told, file_fault}
use Rattle.text.specs.declared.line.Line.{Line}
use Rattle.text.specs.Fields.{Small, IsName}
use Rattle.text.specs.Tokens.{left}
use Rattle.catalogue.specs.declared.entries.Call.{Call}
use Rattle.catalogue.specs.declared.entries.Call.TheVariants.{Choose, Back, Ceiling, Lift}
use Rattle.catalogue.specs.Forms.{Said, Unsaid, number_form}
use Rattle.catalogue.specs.Content.{one_form, feature_form, call_word, call_numbers, call_form}
use Rattle.catalogue.specs.NumberLaws.{same_number}
use Rattle.catalogue.proofs.Numbers.{RowOf, NoRowOf, elements}

-- what the code has read of a line, and what the line then says
pub said_call : (n : ℕ) (l m : Line) (word ns : List ℕ) (x : Call) → left l ≡ word ∷ left m → word ≡ call_word x → RowOf n m ns → map (λ k. slice_index ns k) (range_with_len 0 n) ≡ call_numbers x → Said call_form l x
said_call n l m word ns x first is row numbers =
    let e = elements ns n row.0 ∙ numbers in
    record { value = x; good = subst (AllByRecursion Small) e row.1; fields = first ∙ (λ i. is i ∷ (row.2 ∙ ap (map decimal) e) i); entry = refl }

pub said_feature : (l m : Line) (name ns : List ℕ) → IsName name → left l ≡ name ∷ left m → m.start ≡ l.start → RowOf 1 m ns → Said feature_form l (record { place = m.start; length = length name; values = slice_index ns 0 })
said_feature l m name ns ok first same row =
    let e = elements ns 1 row.0 in
    record {
      value = record { name = name; values = slice_index ns 0 };
      good = (ok, (subst (AllByRecursion Small) e row.1).0);
      fields = first ∙ ap (λ r. name ∷ r) (row.2 ∙ ap (map decimal) e);
      entry = ap (λ p. record { place = p; length = length name; values = slice_index ns 0 }) same;
    }

pub unsaid_values : (l m : Line) (name : List ℕ) (f : Fault) → left l ≡ name ∷ left m → m.number ≡ l.number → NoRowOf 1 m f → Unsaid feature_form l f
unsaid_values l m name f first same none = record {
  is = none.0 ∙ ap (file_fault 15) same;
  never = λ x good e. let rest : left m ≡ map decimal (x.values ∷ []) = cc in none.1 (x.values ∷ []) refl (good.1, tt) rest;
}

pub unsaid_one : (l : Line) (f : Fault) → Unsaid number_form l f → Unsaid one_form l f
unsaid_one l f none = record { is = none.is; never = λ x good e. none.never 1 (omega arith, tt) e }

pub unsaid_other : (l : Line) (n : ℕ) (f : Fault) → told f ≡ file_fault 15 l.number → Said number_form l n → n ≢ 1 → Unsaid one_form l f
unsaid_other l n f is said other = record {
  is = is;
  never = λ x good e. other (said.entry ∙ same_number said.value 1 said.good.0 (omega arith) (let field : decimal said.value ≡ decimal 1 = cc in field));
}

-- a word of no call, and what the code has read of a line that begins with one
pub record NoCallWord (word : List ℕ) : Type 0 where
  pub choose : word ≢ codes "choose"
  pub back : word ≢ codes "back"
  pub ceiling : word ≢ codes "ceiling"
  pub lift : word ≢ codes "lift"

no_call_word : (word : List ℕ) → NoCallWord word → (x : Call) → word ≢ call_word x
no_call_word word none (Choose f v) = none.choose
no_call_word word none (Back f) = none.back
no_call_word word none (Ceiling c) = none.ceiling
no_call_word word none Lift = none.lift

pub unsaid_call : (l m : Line) (word : List ℕ) (f : Fault) → left l ≡ word ∷ left m → m.number ≡ l.number → told f ≡ file_fault 15 m.number → NoCallWord word → Unsaid call_form l f
unsaid_call l m word f first same is none = record {
  is = is ∙ ap (file_fault 15) same;
  never = λ x good e. let word_is : word ≡ call_word x = cc in no_call_word word none x word_is;
}
