-- Rows of numbers. Assumes nothing.
use Rattle.std.specs.Prelude.{◌≡◌, ℕ, List, map, length, decimal, ◌≢◌, slice_index, refl}
use Rattle.std.proofs.Common.{ap, subst, ◌∙◌}
use Rattle.std.specs.List.{range_with_len, AllByRecursion}
use Rattle.std.proofs.lemmas.List.FromFn.{fill_by_all}
use Rattle.fault.specs.declared.Fault.{Fault}
use Rattle.fault.specs.Told.{told, file_fault}
use Rattle.text.specs.declared.line.Line.{Line}
use Rattle.text.specs.Fields.{Small}
use Rattle.text.specs.Tokens.{left}
use Rattle.catalogue.specs.Forms.{Said, Unsaid, numbers_form}

-- a list of n numbers is that of its elements, one by one
pub elements : (ns : List ℕ) (n : ℕ) → length ns ≡ n → ns ≡ map (λ k. slice_index ns k) (range_with_len 0 n)
elements ns n long = fill_by_all (λ k. slice_index ns k) ns n 0 long (λ k lt. refl)

-- what `Line::numbers` answers, by its contract
abbrev pub RowOf : ℕ → Line → List ℕ → Type 0
RowOf n l ns = (length ns ≡ n) × AllByRecursion Small ns × (left l ≡ map decimal ns)

abbrev pub NoRowOf : ℕ → Line → Fault → Type 0
NoRowOf n l f = (told f ≡ file_fault 15 l.number) × ((ns : List ℕ) → length ns ≡ n → AllByRecursion Small ns → left l ≢ map decimal ns)

module _ {E : Type 0} (numbers : E → List ℕ) where
  pub said : (n : ℕ) (l : Line) (ns : List ℕ) (x : E) → RowOf n l ns → map (λ k. slice_index ns k) (range_with_len 0 n) ≡ numbers x → Said (numbers_form numbers) l x
  said n l ns x row is =
      let e = elements ns n row.0 ∙ is in
      record { value = x; good = subst (AllByRecursion Small) e row.1; fields = row.2 ∙ ap (map decimal) e; entry = refl }

  pub unsaid : (n : ℕ) (l : Line) (f : Fault) → NoRowOf n l f → ((x : E) → length (numbers x) ≡ n) → Unsaid (numbers_form numbers) l f
  unsaid n l f none long = record { is = none.0; never = λ x good e. none.1 (numbers x) (long x) good e }
