-- What the laws give of the costs of a list.
use Rattle.std.proofs.Common.{◌≡◌, List, [], ◌∷◌, ◌++◌, sym, ap, ◌∙◌}
use Rattle.tariff.specs.Costs.{Costs, Lawful, total}

module _ {C : Type 0} {k : Costs C} (laws : Lawful k) where
  pub total-append : (xs ys : List C) → total k (xs ++ ys) ≡ k.join (total k xs) (total k ys)
  total-append [] ys = sym (laws.left (total k ys))
  total-append (x ∷ xs) ys = ap (k.join x) (total-append xs ys) ∙ sym (laws.assoc x (total k xs) (total k ys))

  -- one cost more
  pub total_push : (xs : List C) (x : C) → total k (xs ++ (x ∷ [])) ≡ k.join (total k xs) x
  total_push xs x = total-append xs (x ∷ []) ∙ ap (k.join (total k xs)) (laws.right x)
