-- What a diagram reads is what a walk passes.
use Rattle.std.proofs.Common.{◌≡◌, ℕ, zero, suc, ◌+◌, ◌<◌, ◌≤◌, true, List, [], ◌∷◌, length, get_or, Some, sym, refl, ap, ◌∙◌, ⊎_elim, arith}
use Rattle.std.proofs.lemmas.Bool.{cases_eq}
use Rattle.diagram.specs.declared.ColumnNode.{ColumnNode}
use Rattle.node.specs.Columns.{Reads, done, chosen, passed, behind, chain, column_book, column_step}
use Rattle.node.specs.Forms.{Inside}
use Rattle.node.proofs.Places.{passes, walk_some}
use Rattle.node.proofs.ColumnLinks.{chain_some, Linked, at_link, chain_here, chain_past, step_chain}

pub reads_inside : {rs : List ColumnNode} {l x : ℕ} {xs : List ℕ} → Reads rs l (x ∷ xs) → Inside rs l
reads_inside (chosen i e r) = i
reads_inside (passed i o r) = i

-- The record of the chain from l whose value is x.
pub record Found (rs : List ColumnNode) (l x h : ℕ) : Type 0 where
  pub at : ℕ
  pub inside : Inside rs at
  pub column : (behind rs at).column ≡ (behind rs l).column
  pub value : (behind rs at).value ≡ x
  pub high : (behind rs at).high ≡ h
  -- what is read from where the chain leads is read from its link
  pub back : (xs : List ℕ) → Reads rs h xs → Reads rs l (x ∷ xs)

module _ (ds : List ℕ) (rs : List ColumnNode) (start : ℕ) (well : Linked ds rs) where
  -- A value that is read from a link is no less than its record's.
  value_least : {l x : ℕ} {xs : List ℕ} → Reads rs l (x ∷ xs) → (behind rs l).value ≤ x
  value_least (chosen i e r) = omega arith
  value_least {l} (passed i o r) =
      let below = value_least r in
      let low = reads_inside r in
      let p : 1 ≤ (behind rs l).low = omega arith in
      let up = (at_link ds rs well l i).rises p in
      omega arith

  -- What is read from a link is read from where its chain leads.
  pub reads_chain : (k : ℕ) {l x : ℕ} {xs : List ℕ} → Reads rs l (x ∷ xs) → x < k + (behind rs l).value → (h : ℕ) × (chain rs k l x ≡ Some h) × Reads rs h xs
  reads_chain zero r few = let least = value_least r in absurd (omega arith)
  reads_chain (suc k) {l} {x} (chosen i e r) few = ((behind rs l).high, chain_here rs (suc k) l x (omega arith) i.0 e, r)
  reads_chain (suc k) {l} {x} (passed i o r) few =
      let least = value_least r in
      let low = reads_inside r in
      let p : 1 ≤ (behind rs l).low = omega arith in
      let up = (at_link ds rs well l i).rises p in
      let t = reads_chain k r (omega arith) in
      (t.0, chain_past rs k l x i.0 o ∙ t.1, t.2)

  -- Where a chain leads was found in it.
  pub chain_found : (k l x h : ℕ) → Inside rs l → chain rs k l x ≡ Some h → Found rs l x h
  chain_found zero l x h i e = absurd (cc)
  chain_found (suc k) l x h i e =
      let low = (behind rs l).low in
      ⊎_elim
      (λ (same : (behind rs l).value ≡ x).
      let here = chain_here rs (suc k) l x (omega arith) i.0 same in
      let high : h ≡ (behind rs l).high = cc in
      record { at = l; inside = i; column = refl; value = same; high = sym high; back = λ xs r. chosen i same (rw high at r) })
      (λ (other : (behind rs l).value ≡ x → ⊥).
      let rest : chain rs k low x ≡ Some h = sym (chain_past rs k l x i.0 other) ∙ e in
      let falls = (at_link ds rs well l i).falls (chain_some rs k low x h rest) in
      let t = chain_found k low x h falls.0 rest in
      record { at = t.at; inside = t.inside; column = t.column ∙ falls.1; value = t.value; high = t.high; back = λ xs r. passed i other (t.back xs r) })
      (cases_eq (behind rs l).value x)

  -- Where a walk may stand before feature f: at a record of its column, or at 1 behind the last.
  abbrev pub Stands : ℕ → ℕ → Type 0
  Stands f l = (f < length ds → Inside rs l × ((behind rs l).column ≡ f)) × (length ds ≤ f → l ≡ 1)

  pub chain_stands : (k f l x h : ℕ) → Inside rs l → (behind rs l).column ≡ f → chain rs k l x ≡ Some h → Stands (f + 1) h
  chain_stands k f l x h i here e =
      let t = chain_found k l x h i e in
      let r = at_link ds rs well t.at t.inside in
      let c : (behind rs t.at).column ≡ f = t.column ∙ here in (
        λ more.
            let m : (behind rs t.at).column + 1 < length ds = omega arith in
            rw (sym t.high) (let next = r.leads m in (next.0, next.1 ∙ ap (λ (n : ℕ). n + 1) c)),
        λ last. sym t.high ∙ r.ends (omega arith),
      )

  -- The values of the features from f on.
  abbrev pub Rest : ℕ → List ℕ → Type 0
  Rest f xs = (f + length xs ≡ length ds) × ((i k : ℕ) → i < length xs → k ≡ f + i → get_or xs i 0 < get_or ds k 0)

  rest_of : (f x : ℕ) (xs : List ℕ) → Rest f (x ∷ xs) → Rest (f + 1) xs
  rest_of f x xs r = let size = r.0 in (omega arith, λ i k h at. r.1 (suc i) k (omega arith) (omega arith))

  rest_first : (f x : ℕ) (xs : List ℕ) → Rest f (x ∷ xs) → (f < length ds) × (x < get_or ds f 0)
  rest_first f x xs r = let size = r.0 in (omega arith, r.1 0 f (omega arith) (omega arith))

  pub reads_walks : (f l : ℕ) (xs : List ℕ) → Rest f xs → Stands f l → Reads rs l xs → passes (column_book ds rs start) f xs (Some l) ≡ true
  reads_walks f l [] rest here r = refl
  reads_walks f l (x ∷ xs) rest here r =
      let first = rest_first f x xs rest in
      let on = here.0 first.0 in
      let t = reads_chain (get_or ds f 0) r (omega arith) in
      let stepped : column_step ds rs f l x ≡ Some t.0 = sym (step_chain ds rs well f l x on.0 on.1) ∙ t.1 in
      ap (passes (column_book ds rs start) (f + 1) xs) stepped
      ∙ reads_walks (f + 1) t.0 xs (rest_of f x xs rest) (chain_stands (get_or ds f 0) f l x t.0 on.0 on.1 t.1) t.2

  pub walks_reads : (f l : ℕ) (xs : List ℕ) → Rest f xs → Stands f l → passes (column_book ds rs start) f xs (Some l) ≡ true → Reads rs l xs
  walks_reads f l [] rest here e =
      let size = rest.0 in
      rw (here.1 (omega arith)) done
  walks_reads f l (x ∷ xs) rest here e =
      let first = rest_first f x xs rest in
      let on = here.0 first.0 in
      let t = walk_some (column_book ds rs start) (f + 1) xs (column_step ds rs f l x) e in
      let led : chain rs (get_or ds f 0) l x ≡ Some t.0 = step_chain ds rs well f l x on.0 on.1 ∙ t.1 in
      let onward = sym (ap (passes (column_book ds rs start) (f + 1) xs) t.1) ∙ e in
      (chain_found (get_or ds f 0) l x t.0 on.0 led).back xs (walks_reads (f + 1) t.0 xs (rest_of f x xs rest) (chain_stands (get_or ds f 0) f l x t.0 on.0 on.1 led) onward)
