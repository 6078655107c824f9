-- Where a list is cut at a byte. Assumes nothing.
use Rattle.std.proofs.Common.{◌≡◌, ℕ, ◌+◌, ◌<◌, List, [], ◌∷◌, ◌++◌, length, get_or, get_or-take, take, drop, sym, refl, ap, ◌∙◌, arith, Some, None, Option}
use Rattle.std.proofs.lemmas.List.{take-append-drop, drop_more, length-take-le}
use Rattle.std.proofs.ByRecursion.{All-from_get_or}
use Rattle.std.specs.Option.{MatchOption}
use Rattle.text.specs.Fields.{Lacks}

-- the place of the first b, told by what stands at each index
pub placed : (b : ℕ) (s : List ℕ) (r : Option ℕ) → MatchOption r ((k : ℕ) → k < length s → get_or s k 0 ≡ b → ⊥) (λ n. (n < length s) × ((k : ℕ) → k < n → get_or s k 0 ≡ b → ⊥) × (get_or s n 0 ≡ b)) → MatchOption r (Lacks b s) (λ n. (n < length s) × Lacks b (take n s) × (get_or s n 0 ≡ b))
placed b s None h = All-from_get_or (λ x. x ≡ b → ⊥) s 0 h
placed b s (Some n) h =
    let long : length (take n s) ≡ n = length-take-le n s (omega (arith, h.0)) in
    (h.0, All-from_get_or (λ x. x ≡ b → ⊥) (take n s) 0 (λ k lt. rw (get_or-take n s k 0 (omega arith)) (h.1 k (omega arith))), h.2)

pub cut_at : (b : ℕ) (s : List ℕ) (n : ℕ) → n < length s → get_or s n 0 ≡ b → s ≡ take n s ++ b ∷ drop (n + 1) s
cut_at b s n lt e = sym (take-append-drop n s) ∙ ap (λ t. take n s ++ t) (drop_more s n 0 lt ∙ ap (λ x. x ∷ drop (n + 1) s) e)

-- a list that lacks b is not cut at b
pub lacks_cut : (b : ℕ) (f more : List ℕ) → Lacks b (f ++ b ∷ more) → ⊥
lacks_cut b [] more h = h.0 refl
lacks_cut b (x ∷ f) more h = lacks_cut b f more h.1

-- two cuts before the first b are one
pub one_cut : (b : ℕ) (f g r s : List ℕ) → Lacks b f → Lacks b g → f ++ b ∷ r ≡ g ++ b ∷ s → (f ≡ g) × (r ≡ s)
one_cut b [] [] r s hf hg e = (refl, cc)
one_cut b [] (y ∷ g) r s hf hg e = absurd (hg.0 (cc))
one_cut b (x ∷ f) [] r s hf hg e = absurd (hf.0 (cc))
one_cut b (x ∷ f) (y ∷ g) r s hf hg e =
    let head : x ≡ y = cc in
    let tail : f ++ b ∷ r ≡ g ++ b ∷ s = cc in
    let p = one_cut b f g r s hf.1 hg.1 tail in
    ((λ i. head i ∷ p.0 i), p.1)
