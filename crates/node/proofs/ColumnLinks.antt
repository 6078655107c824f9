-- The chain of low links in a table that keeps the rules.
use Rattle.std.proofs.Common.{◌≡◌, ℕ, zero, suc, ◌+◌, ◌-◌, ◌<◌, ◌≤◌, cond, eqb, List, length, get_or, Some, None, sym, refl, ap, ◌∙◌, ⊎_elim, arith}
use Rattle.std.proofs.lemmas.Bool.Decides.{nat_tests}
use Rattle.std.proofs.lemmas.Bool.{cases_eq}
use Rattle.diagram.specs.declared.ColumnNode.{ColumnNode}
use Rattle.node.specs.Forms.{Inside, Well}
use Rattle.node.specs.Columns.{LeadsTo, behind, blank, chain, column_form, column_step}

-- what a record of a well-formed table keeps, one fact each
pub record WellRecord (ds : List ℕ) (rs : List ColumnNode) (r : ColumnNode) : Type 0 where
  pub known : (r.column < length ds) × (r.value < get_or ds r.column 0)
  pub ends : length ds ≤ r.column + 1 → r.high ≡ 1
  pub leads : r.column + 1 < length ds → LeadsTo rs (r.column + 1) r.high
  pub falls : 1 ≤ r.low → LeadsTo rs r.column r.low
  pub rises : 1 ≤ r.low → r.value < (behind rs r.low).value

abbrev pub Linked : List ℕ → List ColumnNode → Type 0
Linked ds rs = (i : ℕ) → i < length rs → WellRecord ds rs (get_or rs i blank)

pub linked_of : (ds : List ℕ) (rs : List ColumnNode) (start : ℕ) → Well column_form ds rs start → Linked ds rs
linked_of ds rs start well i h =
    let w = well.3 i h in
    record {
      known = w.0;
      ends = w.1.0.1;
      leads = w.1.0.0;
      falls = λ p. (w.1.1 p).0;
      rises = λ p. (w.1.1 p).1;
    }

-- A chain at 0 has nothing.
pub chain_none : (rs : List ColumnNode) (k v : ℕ) → chain rs k 0 v ≡ None
chain_none rs zero v = refl
chain_none rs (suc k) v = refl

pub chain_here : (rs : List ColumnNode) (k l v : ℕ) → 1 ≤ k → 2 ≤ l → (behind rs l).value ≡ v → chain rs k l v ≡ Some (behind rs l).high
chain_here rs zero l v some link same = absurd (omega arith)
chain_here rs (suc k) l v some link same = grind (arith, nat_tests)

pub chain_past : (rs : List ColumnNode) (k l v : ℕ) → 2 ≤ l → ((behind rs l).value ≡ v → ⊥) → chain rs (suc k) l v ≡ chain rs k (behind rs l).low v
chain_past rs k l v link other = grind (arith, nat_tests)

pub chain_some : (rs : List ColumnNode) (k l v h : ℕ) → chain rs k l v ≡ Some h → 1 ≤ l
chain_some rs k l v h e = ⊎_elim (λ (z : l ≡ 0). absurd (let none = chain_none rs k v in cc)) (λ (z : l ≡ 0 → ⊥). omega arith) (cases_eq l 0)

module _ (ds : List ℕ) (rs : List ColumnNode) (well : Linked ds rs) where
  -- The rules at a link.
  pub at_link : (l : ℕ) → Inside rs l → WellRecord ds rs (behind rs l)
  at_link l h = well (l - 2) (omega arith)

  -- the values from a link's on are at most k
  abbrev Left : ℕ → ℕ → Type 0
  Left k l = get_or ds (behind rs l).column 0 ≤ k + (behind rs l).value

  -- At a low link fewer are left.
  low_left : (k j l : ℕ) → Inside rs l × Left (suc k) l × Left (suc j) l → 1 ≤ (behind rs l).low → Inside rs (behind rs l).low × Left k (behind rs l).low × Left j (behind rs l).low
  low_left k j l i p =
      let r = at_link l i.0 in
      let same = ap (λ (m : ℕ). get_or ds m 0) (r.falls p).1 in
      let up = r.rises p in
      ((r.falls p).0, omega arith, omega arith)

  -- Where none is left, a chain has nothing.
  chain_done : (k l v : ℕ) → (1 ≤ l → Inside rs l × Left 0 l) → None ≡ chain rs k l v
  chain_done k l v h =
      ⊎_elim (λ (e : l ≡ 0). rw (e, chain_none)) (λ (e : l ≡ 0 → ⊥). let i = h (omega arith) in let w = (at_link l i.0).known in absurd (omega arith)) (cases_eq l 0)

  -- Fuel for the values that are left is enough.
  pub chain_fuel : (k j l v : ℕ) → (1 ≤ l → Inside rs l × Left k l × Left j l) → chain rs k l v ≡ chain rs j l v
  chain_fuel zero j l v h = chain_done j l v (λ p. ((h p).0, (h p).1))
  chain_fuel (suc k) zero l v h = sym (chain_done (suc k) l v (λ p. ((h p).0, (h p).2)))
  chain_fuel (suc k) (suc j) l v h =
      ⊎_elim
      (λ (e : l ≡ 0). grind (arith, nat_tests))
      (λ (e : l ≡ 0 → ⊥).
      let i = h (omega arith) in
      let low = chain_fuel k j (behind rs l).low v (low_left k j l i) in
      cc)
      (cases_eq l 0)

  -- A link whose value is another has what its low link has.
  pub chain_again : (fuel l v : ℕ) → Inside rs l → get_or ds (behind rs l).column 0 ≡ fuel → ((behind rs l).value ≡ v → ⊥) → chain rs fuel l v ≡ chain rs fuel (behind rs l).low v
  chain_again zero l v h size other = let w = (at_link l h).known in absurd (omega arith)
  chain_again (suc k) l v h size other =
      chain_past rs k l v h.0 other ∙ chain_fuel k (suc k) (behind rs l).low v (low_left k (suc k) l (h, omega arith, omega arith))

  -- The values from the low link's on are fewer.
  pub fewer_left : (f l : ℕ) → Inside rs l → (behind rs l).column ≡ f → cond (eqb (behind rs l).low 0) 0 (get_or ds f 0 - (behind rs (behind rs l).low).value) < cond (eqb l 0) 0 (get_or ds f 0 - (behind rs l).value)
  fewer_left f l h here =
      let r = at_link l h in
      grind (arith, nat_tests)

  -- A step from a link of the feature's column is the chain from it.
  pub step_chain : (f p v : ℕ) → Inside rs p → (behind rs p).column ≡ f → chain rs (get_or ds f 0) p v ≡ column_step ds rs f p v
  step_chain f p v h here = grind (arith, nat_tests)

-- A step from anywhere else is none.
pub step_none : (ds : List ℕ) (rs : List ColumnNode) (f p v : ℕ) → (LeadsTo rs f p → ⊥) → None ≡ column_step ds rs f p v
step_none ds rs f p v never = grind (arith, nat_tests)

-- A step that is not none is a chain from a record of the feature's column.
pub step_some : (ds : List ℕ) (rs : List ColumnNode) (f p v q : ℕ) → column_step ds rs f p v ≡ Some q → Inside rs p × ((behind rs p).column ≡ f) × (chain rs (get_or ds f 0) p v ≡ Some q)
step_some ds rs f p v q e = grind (arith, nat_tests)

-- What a step has left to pass at a link: the values from it on.
abbrev pub left_at : List ℕ → List ColumnNode → ℕ → ℕ → ℕ
left_at ds rs f l = cond (eqb l 0) 0 (get_or ds f 0 - (behind rs l).value)

-- The loop of a step stands at l: that is 0 or of the feature's column, and its chain has what the chain from the place has.
pub record OnChain (ds : List ℕ) (rs : List ColumnNode) (f p v l : ℕ) : Type 0 where
  pub leads : 1 ≤ l → LeadsTo rs f l
  pub same : chain rs (get_or ds f 0) l v ≡ chain rs (get_or ds f 0) p v

module _ (ds : List ℕ) (rs : List ColumnNode) (start : ℕ) (well : Well column_form ds rs start) (f p v l : ℕ) (on : OnChain ds rs f p v l) where
  module _ (r : ℕ) (is : r + 2 ≡ l) where
    abbrev at : r ≡ l - 2
    at = omega arith

    abbrev here : LeadsTo rs f l
    here = on.leads (omega arith)

    -- The record has another value: on by its low link, where less is left.
    pub chain_on : ((get_or rs r blank).value ≡ v → ⊥) → OnChain ds rs f p v (get_or rs r blank).low
    chain_on other =
        let linked = linked_of ds rs start well in
        let falls = (at_link ds rs linked l here.0).falls in
        rw at
        (record {
          leads = λ h. ((falls h).0, (falls h).1 ∙ here.1);
          same = sym (chain_again ds rs linked (get_or ds f 0) l v here.0 (ap (λ (k : ℕ). get_or ds k 0) here.1) (rw at at other)) ∙ on.same;
        })

    pub chain_less : left_at ds rs f (get_or rs r blank).low < left_at ds rs f l
    chain_less = rw at (fewer_left ds rs (linked_of ds rs start well) f l here.0 here.1)

    -- The record has the value.
    pub chain_hit : (get_or rs r blank).value ≡ v → LeadsTo rs f p → Some (get_or rs r blank).high ≡ column_step ds rs f p v
    chain_hit same place =
        let linked = linked_of ds rs start well in
        let known : (behind rs l).value < get_or ds f 0 = rw here.1 at (at_link ds rs linked l here.0).known.1 in
        rw at
        (sym (chain_here rs (get_or ds f 0) l v (omega arith) here.0.0 (rw at at same))
        ∙ on.same
        ∙ step_chain ds rs linked f p v place.0 place.1)

  -- There is no record.
  pub chain_miss : l < 2 → LeadsTo rs f p → None ≡ column_step ds rs f p v
  chain_miss leaf place =
      let zero : l ≡ 0 = ⊎_elim (λ e. e) (λ (e : l ≡ 0 → ⊥). let h = on.leads (omega arith) in absurd (omega (arith, h.0.0))) (cases_eq l 0) in
      let none = chain_none rs (get_or ds f 0) v in
      sym none ∙ sym (ap (λ (n : ℕ). chain rs (get_or ds f 0) n v) zero) ∙ on.same ∙ step_chain ds rs (linked_of ds rs start well) f p v place.0 place.1
