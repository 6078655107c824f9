-- The tests of a feature's bits.
use Rattle.std.proofs.Common.{◌≡◌, ℕ, zero, suc, ◌+◌, ◌-◌, ◌<◌, ◌≤◌, eqb, List, length, get_or, sym, refl, ◌∙◌, arith}
use Rattle.std.proofs.lemmas.Bool.Decides.{nat_tests}
use Rattle.std.proofs.lemmas.Bool.{cond_both}
use Rattle.diagram.specs.declared.BitNode.{BitNode}
use Rattle.node.specs.Forms.{Well}
use Rattle.node.specs.Bits.{Comes, Ordered, blank, behind, bit_form, digit, follow, followed, picked}

pub linked_of : (ds : List ℕ) (rs : List BitNode) (start : ℕ) → Well bit_form ds rs start → Ordered rs
linked_of ds rs start well i h = (well.3 i h).1

module _ (rs : List BitNode) (base end v : ℕ) where
  -- 0 and 1 stay.
  pub followed_leaf : (k l : ℕ) → l < 2 → followed rs base end v k l ≡ l
  followed_leaf zero l h = refl
  followed_leaf (suc k) l h = grind (arith, nat_tests)

  -- A record behind the feature's bits stays.
  pub followed_behind : (k l : ℕ) → 2 ≤ l → end ≤ (behind rs l).bit → followed rs base end v k l ≡ l
  followed_behind zero l h b = refl
  followed_behind (suc k) l h b = grind (arith, nat_tests)

  abbrev pub onward : ℕ → ℕ
  onward l = picked (behind rs l) (digit v ((behind rs l).bit - base))

  pub followed_on : (k l : ℕ) → 2 ≤ l → (behind rs l).bit < end → followed rs base end v (suc k) l ≡ followed rs base end v k (onward l)
  followed_on k l h b = grind (arith, nat_tests)

  module _ (well : Ordered rs) where
    pub onward_comes : (l : ℕ) → 2 ≤ l → l < length rs + 2 → Comes rs ((behind rs l).bit + 1) (onward l)
    onward_comes l h i =
        let w = well (l - 2) (omega arith) in
        cond_both (eqb (digit v ((behind rs l).bit - base)) 1) (behind rs l).high (behind rs l).low (λ m. Comes rs ((behind rs l).bit + 1) m) (λ _. w.1) (λ _. w.0)

    -- Where no bit is left, a link stays.
    pub followed_settled : (k b l : ℕ) → Comes rs b l → end ≤ b → followed rs base end v k l ≡ l
    followed_settled k b l c past = grind (arith, followed_leaf, followed_behind)

    -- As many tests as there are bits left are enough.
    pub followed_fuel : (k j b l : ℕ) → Comes rs b l → end ≤ k + b → end ≤ j + b → followed rs base end v k l ≡ followed rs base end v j l
    followed_fuel zero j b l c x y = sym (followed_settled j b l c (omega arith))
    followed_fuel (suc k) zero b l c x y = followed_settled (suc k) b l c (omega arith)
    followed_fuel (suc k) (suc j) b l c x y = grind (arith, nat_tests, onward_comes, followed_fuel k j ((behind rs l).bit + 1) (onward l))

    -- A link leads where the link leads that its bit picks.
    pub followed_again : (k l m : ℕ) → base + k ≡ end → 2 ≤ l → l < length rs + 2 → base ≤ (behind rs l).bit → (behind rs l).bit < end → onward l ≡ m → followed rs base end v k l ≡ followed rs base end v k m
    followed_again zero l m e h i b x p = absurd (omega arith)
    followed_again (suc k) l m e h i b x p =
        let on = followed_on k l h x in
        let fuel = followed_fuel k (suc k) ((behind rs l).bit + 1) (onward l) (onward_comes l h i) (omega arith) (omega arith) in
        cc

    -- A turn of the loop, at record r.
    pub follow_again : (l r m whole : ℕ) → r + 2 ≡ l → base ≤ end → Comes rs base l → (get_or rs r blank).bit < end → picked (get_or rs r blank) (digit v ((get_or rs r blank).bit - base)) ≡ m → follow rs base end v l ≡ whole → Comes rs base m × (follow rs base end v m ≡ whole)
    follow_again l r m whole is o c x p so_far =
        let at : r ≡ l - 2 = omega arith in
        let i = c (omega arith) in
        let d = rw (rw at at p) at (onward_comes l (omega arith) i.0) in (
          λ t. let j = d t in (j.0, omega arith),
          sym (followed_again (end - base) l m (omega arith) (omega arith) i.0 i.1 (rw at at x) (rw at at p)) ∙ so_far,
        )

  -- The loop ends at a record r behind the feature's bits.
  pub follow_end : (l r whole : ℕ) → r + 2 ≡ l → end ≤ (get_or rs r blank).bit → follow rs base end v l ≡ whole → l ≡ whole
  follow_end l r whole is b so_far =
      let at : r ≡ l - 2 = omega arith in
      sym (followed_behind (end - base) l (omega arith) (rw at at b)) ∙ so_far

-- What a bit picks.
pub picked_high : (r : BitNode) (b : ℕ) → b ≡ 1 → picked r b ≡ r.high
picked_high r b e = grind (arith, nat_tests)

pub picked_low : (r : BitNode) (b : ℕ) → (b ≡ 1 → ⊥) → picked r b ≡ r.low
picked_low r b e = grind (arith, nat_tests)
