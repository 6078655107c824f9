-- The place that a link is, and walks from it.
use Rattle.std.proofs.Common.{◌≡◌, ℕ, ◌≤◌, Bool, true, List, is_some, Some, None, Option, refl, arith}
use Rattle.std.proofs.lemmas.Bool.Decides.{nat_tests}
use Rattle.book.specs.Books.{Book, walk_from}
use Rattle.node.specs.Forms.{place_of_link}

pub place_some : (l : ℕ) → 1 ≤ l → place_of_link l ≡ Some l
place_some l some = grind (arith, nat_tests)

pub place_is : (l p : ℕ) → place_of_link l ≡ Some p → (1 ≤ l) × (l ≡ p)
place_is l p e = grind (arith, nat_tests)

-- whether a walk over the values of the features from f on passes
abbrev pub passes : Book → ℕ → List ℕ → Option ℕ → Bool
passes b f xs o = is_some (walk_from b f o xs)

-- A walk that passes begins at a place.
pub walk_some : (b : Book) (f : ℕ) (xs : List ℕ) (o : Option ℕ) → passes b f xs o ≡ true → (h : ℕ) × (o ≡ Some h)
walk_some b f xs None e = absurd (cc)
walk_some b f xs (Some h) e = (h, refl)

pub none_if : (o : Option ℕ) → ((h : ℕ) → o ≡ Some h → ⊥) → o ≡ None
none_if None never = refl
none_if (Some h) never = absurd (never h refl)
