-- What the bits lead to is what a walk passes.
use Rattle.std.proofs.Common.{◌≡◌, ℕ, zero, suc, ◌+◌, ◌-◌, ◌<◌, ◌≤◌, List, [], ◌∷◌, length, get_or, sym, ◌∙◌, ⊎_elim, arith}
use Rattle.std.proofs.lemmas.Bool.Decides.{nat_tests}
use Rattle.std.proofs.lemmas.Bool.{cases_eq, cases_lt}
use Rattle.diagram.specs.declared.BitNode.{BitNode}
use Rattle.node.specs.Forms.{Inside}
use Rattle.node.specs.Bits.{Comes, Ordered, Reaches, done, raised, lowered, base_of, behind, bit_of, digit, followed, width_of}
use Rattle.node.proofs.BitFollows.{followed_leaf, followed_behind, followed_on, onward, onward_comes, picked_high, picked_low}

-- The bits of feature f are the digits of its value.
pub bit_of-base : (ds xs : List ℕ) (f j : ℕ) → f < length ds → f < length xs → j < width_of (get_or ds f 0) → bit_of ds xs (base_of ds f + j) ≡ digit (get_or xs f 0) j
bit_of-base [] xs f j a b h = absurd (omega arith)
bit_of-base (d ∷ ds) [] f j a b h = absurd (omega arith)
bit_of-base (d ∷ ds) (x ∷ xs) zero j a b h = grind (arith, nat_tests)
bit_of-base (d ∷ ds) (x ∷ xs) (suc f) j a b h =
    let rest = bit_of-base ds xs f j (omega arith) (omega arith) h in
    let z : width_of d + base_of ds f + j - width_of d ≡ base_of ds f + j = omega arith in
    grind (arith, nat_tests)

module _ (rs : List BitNode) (bits : ℕ → ℕ) where
  pub reaches_some : {l : ℕ} → Reaches rs bits l → 1 ≤ l
  reaches_some done = omega arith
  reaches_some (raised h e r) = omega arith
  reaches_some (lowered h e r) = omega arith

  module _ (base end v : ℕ) (agree : (b : ℕ) → base ≤ b → b < end → bits b ≡ digit v (b - base)) (well : Ordered rs) where
    -- One bit of the feature.
    reaches_on : (l : ℕ) → 2 ≤ l → base ≤ (behind rs l).bit → (behind rs l).bit < end → Reaches rs bits l → Reaches rs bits (onward rs base end v l)
    reaches_on l h x y (raised h' e r) = rw (picked_high (behind rs l) _ (sym (agree (behind rs l).bit x y) ∙ e)) r
    reaches_on l h x y (lowered h' e r) = rw (picked_low (behind rs l) _ (λ z. e (agree (behind rs l).bit x y ∙ z))) r
    reaches_on l h x y done = absurd (omega arith)

    reaches_back : (l : ℕ) → Inside rs l → base ≤ (behind rs l).bit → (behind rs l).bit < end → Reaches rs bits (onward rs base end v l) → Reaches rs bits l
    reaches_back l h x y r =
        let b = digit v ((behind rs l).bit - base) in
        let same = agree (behind rs l).bit x y in
        ⊎_elim
        (λ (e : b ≡ 1). raised h (same ∙ e) (rw (picked_high (behind rs l) b e) at r))
        (λ (e : b ≡ 1 → ⊥). lowered h (λ z. e (sym same ∙ z)) (rw (picked_low (behind rs l) b e) at r))
        (cases_eq b 1)

    -- The bits of the feature.
    pub reaches_followed : (k l : ℕ) → Comes rs base l → Reaches rs bits l → Reaches rs bits (followed rs base end v k l)
    reaches_followed zero l c r = r
    reaches_followed (suc k) l c r =
        let on = reaches_followed k (onward rs base end v l) in
        let comes = onward_comes rs base end v well l in
        let one = reaches_on l in
        grind (arith, nat_tests)

    pub followed_reaches : (k l : ℕ) → Comes rs base l → Reaches rs bits (followed rs base end v k l) → Reaches rs bits l
    followed_reaches zero l c r = r
    followed_reaches (suc k) l c r =
        let on = followed_reaches k (onward rs base end v l) in
        let comes = onward_comes rs base end v well l in
        let one = reaches_back l in
        grind (arith, nat_tests)

    -- Where the bits lead is at end or later.
    pub followed_comes : (k b l : ℕ) → base ≤ b → Comes rs b l → end ≤ k + b → Comes rs end (followed rs base end v k l)
    followed_comes zero b l o c x = λ t. let i = c t in (i.0, omega arith)
    followed_comes (suc k) b l o c x =
        ⊎_elim
        (λ (h : l < 2). rw (followed_leaf rs base end v (suc k) l h) (λ t. absurd (omega arith)))
        (λ (h : 2 ≤ l).
        let i = c h in
        ⊎_elim
        (λ (m : (behind rs l).bit < end).
        rw (followed_on rs base end v k l h m) (followed_comes k ((behind rs l).bit + 1) (onward rs base end v l) (omega arith) (onward_comes rs base end v well l h i.0) (omega arith)))
        (λ (m : end ≤ (behind rs l).bit). rw (followed_behind rs base end v (suc k) l h m) (λ t. (i.0, m)))
        (cases_lt (behind rs l).bit end))
        (cases_lt l 2)
