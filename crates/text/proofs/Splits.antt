-- Fields, and the spaces between them. Assumes nothing.
use Rattle.std.proofs.Common.{◌≡◌, ℕ, ◌+◌, ◌-◌, ◌<◌, Bool, true, false, cond, eqb, List, [], ◌∷◌, ◌++◌, length, get_or, take, drop, sym, refl, ap, ◌∙◌, append-nil, arith, eqb-true}
use Rattle.std.proofs.lemmas.Bool.Decides.{nat_tests}
use Rattle.std.proofs.lemmas.List.{take_rest}
use Rattle.std.specs.List.{AllByRecursion}
use Rattle.text.specs.Fields.{Lacks, behind, spaced, longer, fields}
use Rattle.text.proofs.Cuts.{cut_at}

-- the first field, where a space follows
pub fields_cut : (f r : List ℕ) → Lacks 32 f → fields (f ++ 32 ∷ r) ≡ f ∷ fields r
fields_cut [] r h = refl
fields_cut (b ∷ f) r h =
    let no : eqb b 32 ≡ false = grind (arith, nat_tests) in
    ap (λ t. cond t ([] ∷ fields (f ++ 32 ∷ r)) (longer b (fields (f ++ 32 ∷ r)))) no ∙ ap (longer b) (fields_cut f r h.1)

-- the last field
pub fields_last : (f : List ℕ) → Lacks 32 f → fields f ≡ f ∷ []
fields_last [] h = refl
fields_last (b ∷ f) h =
    let no : eqb b 32 ≡ false = grind (arith, nat_tests) in
    ap (λ t. cond t ([] ∷ fields f) (longer b (fields f))) no ∙ ap (longer b) (fields_last f h.1)

pub fields-spaced : (f : List ℕ) (fs : List (List ℕ)) → Lacks 32 f → AllByRecursion (Lacks 32) fs → fields (spaced (f ∷ fs)) ≡ f ∷ fs
fields-spaced f [] hf h = ap fields (append-nil f) ∙ fields_last f hf
fields-spaced f (g ∷ fs) hf h = fields_cut f (g ++ behind fs) hf ∙ ap (λ l. f ∷ l) (fields-spaced g fs h.0 h.1)

first_some : (b : ℕ) (t : Bool) (fs : List (List ℕ)) → cond t ([] ∷ fs) (longer b fs) ≡ [] → ⊥
first_some b true fs e = cc
first_some b false [] e = cc
first_some b false (f ∷ fs) e = cc

-- a line has a field, if only an empty one
pub fields_some : (s : List ℕ) → fields s ≡ [] → ⊥
fields_some [] e = cc
fields_some (b ∷ s) e = first_some b (eqb b 32) (fields s) e

-- the cut as the code makes it, at n
pub cut_first : (s : List ℕ) (n : ℕ) → n < length s → Lacks 32 (take n s) → get_or s n 0 ≡ 32 → fields s ≡ take n s ∷ fields (take (length s - (n + 1)) (drop (n + 1) s))
cut_first s n lt h e = rw (take_rest s (n + 1)) (ap fields (cut_at 32 s n lt e) ∙ fields_cut (take n s) (drop (n + 1) s) h)

behind_is : (fs : List (List ℕ)) → (fs ≡ [] → ⊥) → behind fs ≡ 32 ∷ spaced fs
behind_is [] some = absurd (some refl)
behind_is (f ∷ fs) some = refl

longer_is : (b : ℕ) (fs : List (List ℕ)) → (fs ≡ [] → ⊥) → spaced (longer b fs) ≡ b ∷ spaced fs
longer_is b [] some = absurd (some refl)
longer_is b (f ∷ fs) some = refl

one_more : (b : ℕ) (t : Bool) (fs : List (List ℕ)) → eqb b 32 ≡ t → (fs ≡ [] → ⊥) → spaced (cond t ([] ∷ fs) (longer b fs)) ≡ b ∷ spaced fs
one_more b true fs e some = behind_is fs some ∙ ap (λ k. k ∷ spaced fs) (sym (eqb-true b 32 e))
one_more b false fs e some = longer_is b fs some

-- a line is its fields, one space apart
pub spaced-fields : (s : List ℕ) → spaced (fields s) ≡ s
spaced-fields [] = refl
spaced-fields (b ∷ s) = one_more b (eqb b 32) (fields s) refl (fields_some s) ∙ ap (λ l. b ∷ l) (spaced-fields s)
