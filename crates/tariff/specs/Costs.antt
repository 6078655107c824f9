-- A kind of cost, the laws that it obeys, and the cost of a list. Joining need not commute: the order of a list counts.
use Rattle.std.specs.Prelude.{◌≡◌, Bool, IsTrue, ◌⊎◌, List, [], ◌∷◌}

pub record Costs (C : Type 0) : Type 0 where
  -- the cost of nothing
  pub neutral : C
  -- the cost of one thing and then another
  pub join : C → C → C
  -- whether the first is not dearer than the second
  pub le : C → C → Bool

pub record Lawful {C : Type 0} (k : Costs C) : Type 0 where
  -- how joins are bracketed does not matter, and the neutral cost adds nothing on either side
  pub assoc : (a b c : C) → k.join (k.join a b) c ≡ k.join a (k.join b c)
  pub left : (a : C) → k.join k.neutral a ≡ a
  pub right : (a : C) → k.join a k.neutral ≡ a
  -- any two costs compare, and neither is dearer only where they are one cost
  pub total : (a b : C) → IsTrue (k.le a b) ⊎ IsTrue (k.le b a)
  pub trans : (a b c : C) → IsTrue (k.le a b) → IsTrue (k.le b c) → IsTrue (k.le a c)
  pub antisym : (a b : C) → IsTrue (k.le a b) → IsTrue (k.le b a) → a ≡ b
  -- a part that is not dearer, joined on either side, gives a whole that is not dearer
  pub mono_left : (a b c : C) → IsTrue (k.le a b) → IsTrue (k.le (k.join c a) (k.join c b))
  pub mono_right : (a b c : C) → IsTrue (k.le a b) → IsTrue (k.le (k.join a c) (k.join b c))

-- the costs of a list joined in order
abbrev pub total : {C : Type 0} → Costs C → List C → C
total k [] = k.neutral
total k (x ∷ xs) = k.join x (total k xs)
