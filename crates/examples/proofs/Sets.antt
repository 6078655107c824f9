-- A test of every full set, and what it shows.
use Rattle.std.proofs.Common.{◌≡◌, ℕ, zero, suc, ◌<◌, Bool, true, ◌&&◌, List, [], ◌∷◌, length, get_or, refl, arith}
use Rattle.std.proofs.lemmas.Bool.Decides.{Decides-below_and}

-- the test at every number below n
abbrev pub every_below : ℕ → (ℕ → Bool) → Bool
every_below zero test = true
every_below (suc n) test = test n && every_below n test

-- the test at every list with a value for each count
abbrev pub every_set : List ℕ → (List ℕ → Bool) → Bool
every_set [] test = test []
every_set (d ∷ ds) test = every_below d (λ x. every_set ds (λ xs. test (x ∷ xs)))

below_holds : (n : ℕ) (test : ℕ → Bool) → every_below n test ≡ true → (k : ℕ) → k < n → test k ≡ true
below_holds n test = (Decides-below_and test (λ k. test k ≡ true) (λ m. every_below m test) (λ k. ((λ e. e), (λ e. e))) refl (λ _. refl) n).0

pub set_holds : (ds : List ℕ) (test : List ℕ → Bool) → every_set ds test ≡ true → (xs : List ℕ) → length xs ≡ length ds → ((i : ℕ) → i < length ds → get_or xs i 0 < get_or ds i 0) → test xs ≡ true
set_holds [] test e [] size each = e
set_holds [] test e (x ∷ xs) size each = absurd (omega arith)
set_holds (d ∷ ds) test e [] size each = absurd (omega arith)
set_holds (d ∷ ds) test e (x ∷ xs) size each =
    set_holds ds (λ ys. test (x ∷ ys)) (below_holds d (λ y. every_set ds (λ ys. test (y ∷ ys))) e x (each 0 (omega arith))) xs (omega arith) (λ i h. each (suc i) (omega arith))
