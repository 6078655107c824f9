-- A table of bits that keeps the rules keeps the laws of a rule book.
use Rattle.std.proofs.Common.{◌≡◌, ℕ, suc, ◌+◌, ◌-◌, ◌<◌, ◌≤◌, Bool, true, false, cond, ltb, List, [], ◌∷◌, length, get_or, is_some, Some, None, Option, sym, refl, ap, ◌∙◌, ⊎_elim, arith, take_all}
use Rattle.std.proofs.lemmas.List.{get_or_past}
use Rattle.std.proofs.lemmas.Bool.Decides.{nat_tests}
use Rattle.std.proofs.lemmas.Bool.{cases_lt, cond-true, lt-ltb, ltb-true}
use Rattle.book.specs.Books.{BookLaws, FullSet, walk_of}
use Rattle.diagram.specs.declared.BitNode.{BitNode}
use Rattle.node.specs.Forms.{Well, place_of_link}
use Rattle.node.specs.Bits.{Comes, Ordered, Reaches, done, base_of, bit_book, bit_form, bit_of, bit_step, digit, follow, opens, width_of, widths}
use Rattle.node.proofs.BitFollows.{linked_of}
use Rattle.node.proofs.BitReaches.{bit_of-base, reaches_some, reaches_followed, followed_reaches, followed_comes}
use Rattle.node.proofs.Widths.{widths_more}
use Rattle.node.proofs.Places.{place_some, place_is, passes, walk_some}

pub opened : (rs : List BitNode) (b l : ℕ) → 1 ≤ l → Comes rs b l → opens rs b l ≡ true
opened rs b l some c = grind (arith, nat_tests)

pub opens_some : (rs : List BitNode) (b l : ℕ) → opens rs b l ≡ true → (1 ≤ l) × Comes rs b l × (l < length rs + 2)
opens_some rs b l e = (grind (arith, nat_tests), λ t. grind (arith, nat_tests), grind (arith, nat_tests))

-- what comes of three tests that all have to pass
guarded : (a b c : Bool) (o : Option ℕ) (q : ℕ) → cond a (cond b (cond c o None) None) None ≡ Some q → (a ≡ true) × (b ≡ true) × (c ≡ true) × (o ≡ Some q)
guarded true true true o q e = (refl, refl, refl, e)
guarded true true false o q e = absurd (cc)
guarded true false c o q e = absurd (cc)
guarded false b c o q e = absurd (cc)

module _ (ds : List ℕ) (rs : List BitNode) (start : ℕ) (well : Well bit_form ds rs start) where
  abbrev linked : Ordered rs
  linked = linked_of ds rs start well

  abbrev end_of : ℕ → ℕ
  end_of f = base_of ds f + width_of (get_or ds f 0)

  abbrev led : ℕ → ℕ → ℕ → ℕ
  led f v p = follow rs (base_of ds f) (end_of f) v p

  -- a step that is not none leads on from a place where a walk may stand
  step_some : (f p v q : ℕ) → bit_step ds rs f p v ≡ Some q → (f < length ds) × (v < get_or ds f 0) × (opens rs (base_of ds f) p ≡ true) × (led f v p ≡ q)
  step_some f p v q e =
      let t = guarded (ltb f (length ds)) (ltb v (get_or ds f 0)) (opens rs (base_of ds f) p) _ q e in
      (ltb-true f (length ds) t.0, ltb-true v (get_or ds f 0) t.1, t.2, (place_is (led f v p) q t.3).1)

  step_led : (f p v : ℕ) → f < length ds → v < get_or ds f 0 → 1 ≤ p → Comes rs (base_of ds f) p → bit_step ds rs f p v ≡ place_of_link (led f v p)
  step_led f p v a b some c =
      cond-true (ltb f (length ds)) _ _ (lt-ltb f (length ds) a)
      ∙ cond-true (ltb v (get_or ds f 0)) _ _ (lt-ltb v (get_or ds f 0) b)
      ∙ cond-true (opens rs (base_of ds f) p) _ _ (opened rs (base_of ds f) p some c)

  -- the same, where base and end are known by other terms
  pub step_by : (f p v base end : ℕ) → f < length ds → v < get_or ds f 0 → base ≡ base_of ds f → end ≡ base_of ds (f + 1) → opens rs base p ≡ true → place_of_link (follow rs base end v p) ≡ bit_step ds rs f p v
  step_by f p v base end a b same_base same_end o =
      let s = opens_some rs (base_of ds f) p (rw same_base at o) in
      rw (same_base, same_end, widths_more ds f a) (sym (step_led f p v a b s.0 s.1))

  module _ (bits : ℕ → ℕ) where
    -- The values of the features from f on, whose bits these are.
    pub record Rest (f : ℕ) (xs : List ℕ) : Type 0 where
      pub size : f + length xs ≡ length ds
      pub each : (i k : ℕ) → i < length xs → k ≡ f + i → get_or xs i 0 < get_or ds k 0
      pub same : (i k j b : ℕ) → i < length xs → k ≡ f + i → j < width_of (get_or ds k 0) → b ≡ base_of ds k + j → bits b ≡ digit (get_or xs i 0) j

  module _ (bits : ℕ → ℕ) where
    rest_of : (f x : ℕ) (xs : List ℕ) → Rest bits f (x ∷ xs) → Rest bits (f + 1) xs
    rest_of f x xs r =
        let size = r.size in
        record {
          size = omega arith;
          each = λ i k h at. r.each (suc i) k (omega arith) (omega arith);
          same = λ i k j b h at. r.same (suc i) k j b (omega arith) (omega arith);
        }

    -- What is known at the first of the features that are left.
    pub record First (f x : ℕ) : Type 0 where
      pub there : f < length ds
      pub below : x < get_or ds f 0
      pub agree : (b : ℕ) → base_of ds f ≤ b → b < end_of f → bits b ≡ digit x (b - base_of ds f)

  module _ (bits : ℕ → ℕ) where
    first_of : (f x : ℕ) (xs : List ℕ) → Rest bits f (x ∷ xs) → First bits f x
    first_of f x xs r =
        let size = r.size in
        record {
          there = omega arith;
          below = r.each 0 f (omega arith) (omega arith);
          agree = λ b lo hi. r.same 0 f (b - base_of ds f) b (omega arith) (omega arith) (omega arith) (omega arith);
        }

    led_comes : (f l x : ℕ) → First bits f x → Comes rs (base_of ds f) l → Comes rs (base_of ds (f + 1)) (led f x l)
    led_comes f l x first c =
        rw (widths_more ds f first.there)
        (followed_comes rs bits (base_of ds f) (end_of f) x first.agree linked (end_of f - base_of ds f) (base_of ds f) l (omega arith) c (omega arith))

    -- Behind the last feature a place is 1.
    last_one : (f l : ℕ) → f ≡ length ds → 1 ≤ l → Comes rs (base_of ds f) l → l ≡ 1
    last_one f l e some c =
        ⊎_elim (λ (h : l < 2). omega arith)
        (λ (h : 2 ≤ l).
        let i = c h in
        let k = (well.3 (l - 2) (omega arith)).0 in
        let all = ap widths (take_all f ds (omega arith)) in
        absurd (omega arith))
        (cases_lt l 2)

    pub reaches_walks : (f l : ℕ) (xs : List ℕ) → Rest bits f xs → Comes rs (base_of ds f) l → Reaches rs bits l → passes (bit_book ds rs start) f xs (Some l) ≡ true
    reaches_walks f l [] rest c r = refl
    reaches_walks f l (x ∷ xs) rest c r =
        let first = first_of f x xs rest in
        let t = reaches_followed rs bits (base_of ds f) (end_of f) x first.agree linked (end_of f - base_of ds f) l c r in
        let stepped = step_led f l x first.there first.below (reaches_some rs bits r) c ∙ place_some _ (reaches_some rs bits t) in
        ap (passes (bit_book ds rs start) (f + 1) xs) stepped ∙ reaches_walks (f + 1) (led f x l) xs (rest_of bits f x xs rest) (led_comes f l x first c) t

    pub walks_reaches : (f l : ℕ) (xs : List ℕ) → Rest bits f xs → 1 ≤ l → Comes rs (base_of ds f) l → passes (bit_book ds rs start) f xs (Some l) ≡ true → Reaches rs bits l
    walks_reaches f l [] rest some c e =
        let size = rest.size in
        rw (last_one f l (omega arith) some c) done
    walks_reaches f l (x ∷ xs) rest some c e =
        let first = first_of f x xs rest in
        let t = walk_some (bit_book ds rs start) (f + 1) xs (bit_step ds rs f l x) e in
        let place = place_is (led f x l) t.0 (sym (step_led f l x first.there first.below some c) ∙ t.1) in
        let stepped : bit_step ds rs f l x ≡ Some (led f x l) = t.1 ∙ ap Some (sym place.1) in
        followed_reaches rs bits (base_of ds f) (end_of f) x first.agree linked (end_of f - base_of ds f) l c
        (walks_reaches (f + 1) (led f x l) xs (rest_of bits f x xs rest) place.0 (led_comes f l x first c) (sym (ap (passes (bit_book ds rs start) (f + 1) xs) stepped) ∙ e))

  full_rest : (xs : List ℕ) → FullSet (bit_book ds rs start) xs → Rest (bit_of ds xs) 0 xs
  full_rest xs full =
      let size = full.size in
      record {
        size = omega arith;
        each = λ i k h at. let same : k ≡ i = omega arith in rw same (full.each i (omega arith));
        same = λ i k j b h at in' bit. let same : k ≡ i = omega arith in rw (bit, same) (bit_of-base ds xs i j (omega arith) h (rw same at in'));
      }

  start_comes : Comes rs (base_of ds 0) start
  start_comes h = (well.4, omega arith)

  reaches_pass : (xs : List ℕ) → FullSet (bit_book ds rs start) xs → Reaches rs (bit_of ds xs) start → is_some (walk_of (bit_book ds rs start) xs) ≡ true
  reaches_pass xs full r =
      rw (place_some start (reaches_some rs (bit_of ds xs) r)) (reaches_walks (bit_of ds xs) 0 start xs (full_rest xs full) start_comes r)

  pass_reaches : (xs : List ℕ) → FullSet (bit_book ds rs start) xs → is_some (walk_of (bit_book ds rs start) xs) ≡ true → Reaches rs (bit_of ds xs) start
  pass_reaches xs full e =
      let w = walk_some (bit_book ds rs start) 0 xs (place_of_link start) e in
      let some = (place_is start w.0 w.1).0 in
      walks_reaches (bit_of ds xs) 0 start xs (full_rest xs full) some start_comes (rw (place_some start some) at e)

  stays_within : (f p v q : ℕ) → bit_step ds rs f p v ≡ Some q → q < length rs + 2
  stays_within f p v q e =
      let t = step_some f p v q e in
      let s = opens_some rs (base_of ds f) p t.2 in
      let c = followed_comes rs (λ n. digit v (n - base_of ds f)) (base_of ds f) (end_of f) v (λ n x y. refl) linked (end_of f - base_of ds f) (base_of ds f) p (omega arith) s.1 (omega arith) in
      let same = t.3 in
      grind arith

  pub bit_laws : BookLaws (bit_book ds rs start) (λ xs. Reaches rs (bit_of ds xs) start)
  bit_laws = record {
    some_feature = well.0.0;
    few_features = well.0.1;
    some_value = λ i h. (well.1 i h).0;
    few_values = λ i h. (well.1 i h).1;
    some_place = omega arith;
    few_places = let few = well.2 in omega arith;
    start_within = λ p e. let s = place_is start p e in rw (sym s.1) well.4;
    step_within = stays_within;
    no_values = λ i h. get_or_past ds i 0 h;
    no_feature = λ f p v h. grind (arith, nat_tests);
    no_place = λ f p v h. grind (arith, nat_tests);
    no_value = λ f p v h. grind (arith, nat_tests);
    decided = λ xs full. (pass_reaches xs full, reaches_pass xs full);
  }
