-- How many bits there are.
use Rattle.std.proofs.Common.{◌≡◌, ℕ, ◌+◌, ◌*◌, ◌^◌, ◌<◌, ◌≤◌, List, [], ◌∷◌, ◌++◌, length, get_or, take, set, ap, ◌∙◌, ⊎_elim, arith, length-take, get_or-set_other, get_or-set_same, pow_mono}
use Rattle.std.proofs.lemmas.List.{get_or_past, take_more}
use Rattle.std.proofs.lemmas.Bool.{cases_lt}
use Rattle.std.proofs.lemmas.Bool.Decides.{nat_tests}
use Rattle.node.specs.Bits.{Fewest, base_of, widths, width_of}

widths_push : (ds : List ℕ) (d : ℕ) → widths (ds ++ (d ∷ [])) ≡ widths ds + width_of d
widths_push [] d = omega arith
widths_push (x ∷ ds) d = let e = widths_push ds d in omega arith

pub widths_more : (ds : List ℕ) (i : ℕ) → i < length ds → widths (take (i + 1) ds) ≡ widths (take i ds) + width_of (get_or ds i 0)
widths_more ds i h = ap widths (take_more ds i 0 h) ∙ widths_push (take i ds) (get_or ds i 0)

-- two powers apart, the exponents are in order
below_pow : (k d j : ℕ) → 2 ^ k < d → d ≤ 2 ^ j → k < j
below_pow k d j low high =
    grind (arith, pow_mono)

-- so many bits are the fewest, for 1 to 16 values
pub fewest : (d k : ℕ) → k ≡ width_of d → 1 ≤ d → d ≤ 16 → Fewest d k
fewest d k is some few = record {
  enough = grind (arith, nat_tests);
  least = λ j p. grind (arith, nat_tests, below_pow 0 d j, below_pow 1 d j, below_pow 2 d j, below_pow 3 d j);
}

-- at most four bits a feature
pub width_few : (d : ℕ) → width_of d ≤ 4
width_few d = grind (arith, nat_tests)

pub widths_few : (ds : List ℕ) → widths ds ≤ 4 * length ds
widths_few [] = omega arith
widths_few (d ∷ ds) = let h = width_few d in let t = widths_few ds in omega arith

-- at most 96 bits
pub base_few : (ds : List ℕ) (f : ℕ) → length ds ≤ 24 → base_of ds f ≤ 96
base_few ds f few =
    let h = widths_few (take f ds) in
    let t = length-take f ds in
    omega arith

-- the row of bases with one more
pub bases_more : (ds bases : List ℕ) (i : ℕ) → i < length ds → i + 1 < length bases → ((f : ℕ) → f ≤ i → get_or bases f 0 ≡ base_of ds f) → (b : ℕ) → b ≡ base_of ds (i + 1) → (f : ℕ) → f ≤ i + 1 → get_or (set bases (i + 1) b) f 0 ≡ base_of ds f
bases_more ds bases i within room so_far b e f h = grind (arith, get_or-set_other, get_or-set_same)

-- a value below the count of a feature: there is such a feature
pub valued_within : (ds : List ℕ) (f v : ℕ) → v < get_or ds f 0 → f < length ds
valued_within ds f v h = ⊎_elim (λ within. within) (λ (past : length ds ≤ f). let none = get_or_past ds f 0 past in absurd (omega arith)) (cases_lt f (length ds))
