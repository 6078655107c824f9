-- The parts of a text, each with what it does to the tables of type T. Assumes nothing.
use Rattle.std.proofs.Common.{◌≡◌, ℕ, ◌+◌, ◌-◌, ◌≤◌, List, ◌∷◌, ◌++◌, length, sym, refl, ap, ◌∙◌, subst, ⊎_elim, append_assoc, arith, length-append}
use Rattle.fault.specs.declared.Fault.{Fault}
use Rattle.text.specs.declared.reader.Reader.{Reader}
use Rattle.text.specs.Lines.{rest, Took}
use Rattle.text.specs.Layouts.{Layout, Refused}
use Rattle.text.proofs.Layouts.{Coded, CleanLines, reach, then, then_coded, then_clean, refused_then, refused_first}
use Rattle.text.proofs.Takes.{took_more}

-- a layout, and the tables once so many lines of a content have passed
pub record Part (T : Type 0) : Type 1 where
  pub layout : Layout
  pub held : ℕ → layout.Content → T → T

-- contents are told apart; no line changes nothing, lines past the last change no more, and what lines do is told by
-- them; there is a content that fits
pub record Sound {T : Type 0} (P : Part T) : Type 0 where
  pub coded : Coded P.layout
  pub clean : CleanLines P.layout
  pub none : (c : P.layout.Content) (t : T) → P.held 0 c t ≡ t
  pub all : (k : ℕ) (c : P.layout.Content) (t : T) → length (P.layout.lines c) ≤ k → P.held k c t ≡ P.held (length (P.layout.lines c)) c t
  pub same : (c d : P.layout.Content) (p x y : List (List ℕ)) (t : T) → P.layout.Good c → P.layout.Good d → P.layout.lines c ≡ p ++ x → P.layout.lines d ≡ p ++ y → P.held (length p) c t ≡ P.held (length p) d t
  pub example : P.layout.Content
  pub good : P.layout.Good example
  pub fits : P.layout.Fits example

-- the part is read from a to b, and says x
pub record Reads {T : Type 0} (P : Part T) (a b : Reader) (t u : T) (x : P.layout.Content) : Type 0 where
  pub good : P.layout.Good x
  pub fits : P.layout.Fits x
  pub took : Took a b (P.layout.lines x)
  pub table : u ≡ P.held (length (P.layout.lines x)) x t

-- the part is refused
pub record Stops {T : Type 0} (P : Part T) (k : ℕ) (bs : List ℕ) (t u : T) (f : Fault) : Type 0 where
  pub refused : Refused P.layout k bs f
  pub table : u ≡ P.held (length refused.passed) refused.content t

abbrev pub next : {T : Type 0} (P : Part T) → (P.layout.Content → Part T) → Part T
next P Q = record {
  layout = then P.layout (λ x. (Q x).layout);
  held = λ k c t. (Q c.0).held (k - length (P.layout.lines c.0)) c.1 (P.held k c.0 t);
}

module _ {T : Type 0} (P : Part T) (Q : P.layout.Content → Part T) (p : Sound P) (q : (x : P.layout.Content) → Sound (Q x)) where
  -- what the second part does, where just k of its lines passed after all of the first
  after : (k j : ℕ) (x : P.layout.Content) (y : (Q x).layout.Content) (t u : T) → k ≡ length (P.layout.lines x) + j → u ≡ P.held (length (P.layout.lines x)) x t → (Q x).held j y u ≡ (next P Q).held k (x, y) t
  after k j x y t u e is =
      let less : k - length (P.layout.lines x) ≡ j = omega arith in
      ap ((Q x).held j y) (is ∙ sym (p.all k x t (omega arith))) ∙ ap (λ i. (Q x).held i y (P.held k x t)) (sym less)

  next_all : (k : ℕ) (c : (next P Q).layout.Content) (t : T) → length ((next P Q).layout.lines c) ≤ k → (next P Q).held k c t ≡ (next P Q).held (length ((next P Q).layout.lines c)) c t
  next_all k c t le =
      let x = c.0 in
      let m = length (P.layout.lines x) in
      let n = length ((Q x).layout.lines c.1) in
      let long : length ((next P Q).layout.lines c) ≡ m + n = length-append (P.layout.lines x) ((Q x).layout.lines c.1) in
      ap ((Q x).held (k - m) c.1) (p.all k x t (omega arith))
      ∙ (q x).all (k - m) c.1 (P.held m x t) (omega arith)
      ∙ after (length ((next P Q).layout.lines c)) n x c.1 t (P.held m x t) long refl

  -- what lines do that end inside the first part, or after it
  in_first : (c : (next P Q).layout.Content) (ls m : List (List ℕ)) (l : List ℕ) (t : T) → P.layout.lines c.0 ≡ ls ++ l ∷ m → (next P Q).held (length ls) c t ≡ P.held (length ls) c.0 t
  in_first c ls m l t is =
      let less : length ls - length (P.layout.lines c.0) ≡ 0 = omega (arith, ap length is, length-append ls (l ∷ m)) in
      ap (λ i. (Q c.0).held i c.1 (P.held (length ls) c.0 t)) less ∙ (q c.0).none c.1 (P.held (length ls) c.0 t)

  same_second : (c d : (next P Q).layout.Content) (ls m x y : List (List ℕ)) (t : T) → (next P Q).layout.Good c → (next P Q).layout.Good d → (next P Q).layout.lines c ≡ ls ++ x → (next P Q).layout.lines d ≡ ls ++ y → ls ≡ P.layout.lines c.0 ++ m → (next P Q).held (length ls) c t ≡ (next P Q).held (length ls) d t
  same_second c d ls m x y t gc gd ec ed is =
      let front = P.layout.lines c.0 in
      let whole : (z : List (List ℕ)) → ls ++ z ≡ front ++ (m ++ z) = λ z. ap (λ k. k ++ z) is ∙ append_assoc front m z in
      let mine = (p.coded c.0 c.0 ((Q c.0).layout.lines c.1) (m ++ x) gc.0 gc.0 (ec ∙ whole x)).1 in
      let other = p.coded c.0 d.0 (m ++ y) ((Q d.0).layout.lines d.1) gc.0 gd.0 (sym (ed ∙ whole y)) in
      let long : length ls ≡ length front + length m = ap length is ∙ length-append front m in
      let u = P.held (length front) c.0 t in
      let R : P.layout.Content → Type 0 = λ z. (w : (Q z).layout.Content) → (Q z).layout.Good w → m ++ y ≡ (Q z).layout.lines w → (next P Q).held (length ls) c t ≡ (next P Q).held (length ls) (z, w) t in
      subst R other.0
      (λ w gw ew.
      sym (after (length ls) (length m) c.0 c.1 t u long refl)
      ∙ (q c.0).same c.1 w m x y u gc.1 gw mine (sym ew)
      ∙ after (length ls) (length m) c.0 w t u long refl)
      d.1 gd.1 other.1

  next_same : (c d : (next P Q).layout.Content) (ls x y : List (List ℕ)) (t : T) → (next P Q).layout.Good c → (next P Q).layout.Good d → (next P Q).layout.lines c ≡ ls ++ x → (next P Q).layout.lines d ≡ ls ++ y → (next P Q).held (length ls) c t ≡ (next P Q).held (length ls) d t
  next_same c d ls x y t gc gd ec ed =
      ⊎_elim
      (λ (h : (m : List (List ℕ)) × (ls ≡ P.layout.lines c.0 ++ m)). same_second c d ls h.0 x y t gc gd ec ed h.1)
      (λ (h : (l : List ℕ) × (m : List (List ℕ)) × (P.layout.lines c.0 ≡ ls ++ l ∷ m)). ⊎_elim
      (λ (k : (m : List (List ℕ)) × (ls ≡ P.layout.lines d.0 ++ m)). sym (same_second d c ls k.0 y x t gd gc ed ec k.1))
      (λ (k : (l : List ℕ) × (m : List (List ℕ)) × (P.layout.lines d.0 ≡ ls ++ l ∷ m)).
      in_first c ls h.1 h.0 t h.2 ∙ p.same c.0 d.0 ls (h.0 ∷ h.1) (k.0 ∷ k.1) t gc.0 gd.0 h.2 k.2 ∙ sym (in_first d ls k.1 k.0 t k.2))
      (reach (P.layout.lines d.0) ((Q d.0).layout.lines d.1) ls y ed))
      (reach (P.layout.lines c.0) ((Q c.0).layout.lines c.1) ls x ec)

  pub next_sound : Sound (next P Q)
  next_sound = record {
    coded = then_coded P.layout (λ x. (Q x).layout) p.coded (λ x. (q x).coded);
    clean = then_clean P.layout (λ x. (Q x).layout) p.coded p.clean (λ x. (q x).clean);
    none = λ c t.
        let less : 0 - length (P.layout.lines c.0) ≡ 0 = omega arith in
        ap (λ k. (Q c.0).held k c.1 (P.held 0 c.0 t)) less ∙ (q c.0).none c.1 (P.held 0 c.0 t) ∙ p.none c.0 t;
    all = next_all;
    same = next_same;
    example = (p.example, (q p.example).example);
    good = (p.good, (q p.example).good);
    fits = (p.fits, (q p.example).fits);
  }

  pub reads_next : (a b c : Reader) (t u v : T) (x : P.layout.Content) (y : (Q x).layout.Content) → Reads P a b t u x → Reads (Q x) b c u v y → Reads (next P Q) a c t v (x, y)
  reads_next a b c t u v x y first second = record {
    good = (first.good, second.good);
    fits = (first.fits, second.fits);
    took = took_more a b c (P.layout.lines x) ((Q x).layout.lines y) first.took second.took;
    table =
        second.table
        ∙ after (length ((next P Q).layout.lines (x, y))) (length ((Q x).layout.lines y)) x y t u (length-append (P.layout.lines x) ((Q x).layout.lines y)) first.table;
  }

  -- the first part is read, and the second is refused
  pub stops_next : (a b : Reader) (t u v : T) (f : Fault) (x : P.layout.Content) → Reads P a b t u x → Stops (Q x) b.line (rest b) u v f → Stops (next P Q) a.line (rest a) t v f
  unfolding refused_then
  stops_next a b t u v f x first stops = record {
    refused = refused_then P.layout (λ z. (Q z).layout) p.coded b.line a.line (rest a) (rest b) f x first.good first.fits first.took.front first.took.line stops.refused;
    table =
        stops.table
        ∙ after (length (P.layout.lines x ++ stops.refused.passed)) (length stops.refused.passed) x stops.refused.content t u (length-append (P.layout.lines x) stops.refused.passed) first.table;
  }

  -- the first part is refused
  pub stops_first : (k : ℕ) (bs : List ℕ) (t u : T) (f : Fault) → Stops P k bs t u f → Stops (next P Q) k bs t u f
  unfolding refused_first
  stops_first k bs t u f stops =
      let r = stops.refused in
      let x = r.content in
      let long : length (P.layout.lines x) ≡ length r.passed + length (r.wanted ∷ r.begins.more) = ap length r.begins.lines ∙ length-append r.passed (r.wanted ∷ r.begins.more) in
      let less : length r.passed - length (P.layout.lines x) ≡ 0 = omega arith in
      record {
        refused = refused_first P.layout (λ z. (Q z).layout) p.coded (λ z. ((q z).example, (q z).good, (q z).fits)) k bs f r;
        table =
            stops.table
            ∙ sym ((q x).none (q x).example (P.held (length r.passed) x t))
            ∙ ap (λ i. (Q x).held i (q x).example (P.held (length r.passed) x t)) (sym less);
      }

-- from s, where the part W begins, a is reached with the tables t, and the part M is what is left of W
pub record Reached {T : Type 0} (W : Part T) (s a : Reader) (r t : T) (M : Part T) : Type 0 where
  pub whole : M.layout.Content → W.layout.Content
  pub reads : (b : Reader) (u : T) (y : M.layout.Content) → Reads M a b t u y → Reads W s b r u (whole y)
  pub stops : (u : T) (f : Fault) → Stops M a.line (rest a) t u f → Stops W s.line (rest s) r u f

unfoldable pub reached_none : {T : Type 0} (W : Part T) (s : Reader) (r : T) → Reached W s s r r W
reached_none W s r = record { whole = λ y. y; reads = λ b u y h. h; stops = λ u f h. h }

unfoldable pub reached_next : {T : Type 0} (W : Part T) (s a b : Reader) (r t u : T) (P : Part T) (Q : P.layout.Content → Part T) (p : Sound P) (q : (x : P.layout.Content) → Sound (Q x)) (x : P.layout.Content) → Reached W s a r t (next P Q) → Reads P a b t u x → Reached W s b r u (Q x)
reached_next W s a b r t u P Q p q x reached first = record {
  whole = λ y. reached.whole (x, y);
  reads = λ c v y h. reached.reads c v (x, y) (reads_next P Q p q a b c t u v x y first h);
  stops = λ v f h. reached.stops v f (stops_next P Q p q a b t u v f x first h);
}
