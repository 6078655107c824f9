-- Layouts whose contents are told apart by their lines: one part after another, and at most one fault.
-- Assumes nothing.
use Rattle.std.proofs.Common.{◌≡◌, ℕ, ◌+◌, ◌⊎◌, List, [], ◌∷◌, ◌++◌, length, sym, refl, ap, ◌∙◌, subst, inl, inr, ⊎_elim, append_assoc, append-nil, arith, length-append}
use Rattle.std.specs.List.{AllByRecursion}
use Rattle.std.proofs.ByRecursion.{All-append}
use Rattle.fault.specs.declared.Fault.{Fault}
use Rattle.fault.specs.Told.{told, file_fault}
use Rattle.text.specs.Fields.{Lacks}
use Rattle.text.specs.Lines.{ended, text_of}
use Rattle.text.specs.Layouts.{Layout, GoesOn, No, absent, ill_formed, too_small, Refused, Surplus}
use Rattle.text.proofs.Cuts.{lacks_cut, one_cut}

pub nothing_is_some : {X : Type 0} (x : X) (xs : List X) → [] ≡ x ∷ xs → ⊥
nothing_is_some x xs e = cc

pub nothing_is_more : {X : Type 0} (ys : List X) (x : X) (xs : List X) → [] ≡ ys ++ x ∷ xs → ⊥
nothing_is_more [] x xs e = nothing_is_some x xs e
nothing_is_more (y ∷ ys) x xs e = nothing_is_some y (ys ++ x ∷ xs) e

-- where one list ends inside another
pub meet : {X : Type 0} (a b c d : List X) (l : X) → a ++ b ≡ c ++ l ∷ d → ((m : List X) × (c ≡ a ++ m)) ⊎ ((m : List X) × (a ≡ c ++ l ∷ m))
meet [] b c d l e = inl (c, refl)
meet (x ∷ a) b [] d l e = let h : x ≡ l = cc in inr (a, ap (λ y. y ∷ a) h)
meet (x ∷ a) b (y ∷ c) d l e =
    let head : y ≡ x = cc in
    let tail : a ++ b ≡ c ++ l ∷ d = cc in
    ⊎_elim
    (λ (p : (m : List _) × (c ≡ a ++ m)). inl (p.0, λ i. head i ∷ p.1 i))
    (λ (p : (m : List _) × (a ≡ c ++ l ∷ m)). inr (p.0, λ i. sym head i ∷ p.1 i))
    (meet a b c d l tail)

-- the same, whatever follows
pub reach : {X : Type 0} (a b c d : List X) → a ++ b ≡ c ++ d → ((m : List X) × (c ≡ a ++ m)) ⊎ ((l : X) × (m : List X) × (a ≡ c ++ l ∷ m))
reach a b c [] e = inl (b, sym (append-nil c) ∙ sym e)
reach a b c (l ∷ d) e =
    ⊎_elim
    (λ (p : (m : List _) × (c ≡ a ++ m)). inl p)
    (λ (p : (m : List _) × (a ≡ c ++ l ∷ m)). inr (l, p.0, p.1))
    (meet a b c d l e)

pub text-append : (ls ms : List (List ℕ)) → text_of (ls ++ ms) ≡ text_of ls ++ text_of ms
text-append [] ms = refl
text-append (l ∷ ls) ms = ap (λ t. ended l ++ t) (text-append ls ms) ∙ sym (append_assoc (ended l) (text_of ls) (text_of ms))

-- two texts that begin with a line begin with the same line
pub line_cut : (l m r s : List ℕ) → Lacks 10 l → Lacks 10 m → ended l ++ r ≡ ended m ++ s → (l ≡ m) × (r ≡ s)
line_cut l m r s hl hm e = one_cut 10 l m r s hl hm (sym (append_assoc l (10 ∷ []) r) ∙ e ∙ append_assoc m (10 ∷ []) s)

-- the lines ms are the lines ls and more, so that what follows ls begins with a line
pub record Further (ls ms : List (List ℕ)) (r : List ℕ) : Type 0 where
  pub line : List ℕ
  pub lacks : Lacks 10 line
  pub more : List (List ℕ)
  pub lines : ms ≡ ls ++ line ∷ more
  pub rest : List ℕ
  pub left : r ≡ ended line ++ rest

further : (l : List ℕ) (ls ms : List (List ℕ)) (r : List ℕ) → Further ls ms r → Further (l ∷ ls) (l ∷ ms) r
further l ls ms r f = record { line = f.line; lacks = f.lacks; more = f.more; lines = ap (λ k. l ∷ k) f.lines; rest = f.rest; left = f.left }

abbrev pub Clean : List (List ℕ) → Type 0
Clean ls = AllByRecursion (Lacks 10) ls

-- two ways to begin a text by lines
pub order : (ls ms : List (List ℕ)) (r s : List ℕ) → Clean ls → Clean ms → text_of ls ++ r ≡ text_of ms ++ s → ((ls ≡ ms) × (r ≡ s)) ⊎ (Further ls ms r ⊎ Further ms ls s)
order [] [] r s hl hm e = inl (refl, e)
order [] (m ∷ ms) r s hl hm e = inr (inl (record { line = m; lacks = hm.0; more = ms; lines = refl; rest = text_of ms ++ s; left = e ∙ append_assoc (ended m) (text_of ms) s }))
order (l ∷ ls) [] r s hl hm e = inr (inr (record { line = l; lacks = hl.0; more = ls; lines = refl; rest = text_of ls ++ r; left = sym e ∙ append_assoc (ended l) (text_of ls) r }))
order (l ∷ ls) (m ∷ ms) r s hl hm e =
    let p = line_cut l m (text_of ls ++ r) (text_of ms ++ s) hl.0 hm.0 (sym (append_assoc (ended l) (text_of ls) r) ∙ e ∙ append_assoc (ended m) (text_of ms) s) in
    subst (λ k. ((l ∷ ls ≡ k ∷ ms) × (r ≡ s)) ⊎ (Further (l ∷ ls) (k ∷ ms) r ⊎ Further (k ∷ ms) (l ∷ ls) s)) p.0
    (⊎_elim
    (λ (q : (ls ≡ ms) × (r ≡ s)). inl (ap (λ k. l ∷ k) q.0, q.1))
    (λ (q : Further ls ms r ⊎ Further ms ls s). ⊎_elim
    (λ (f : Further ls ms r). inr (inl (further l ls ms r f)))
    (λ (f : Further ms ls s). inr (inr (further l ms ls s f)))
    q)
    (order ls ms r s hl.1 hm.1 p.1))

-- no content's lines begin those of another, and its lines tell which content it is
abbrev pub Coded : Layout → Type 0
Coded L = (c d : L.Content) (r s : List (List ℕ)) → L.Good c → L.Good d → L.lines c ++ r ≡ L.lines d ++ s → (c ≡ d) × (r ≡ s)

abbrev pub CleanLines : Layout → Type 0
CleanLines L = (c : L.Content) → L.Good c → Clean (L.lines c)

-- where a content that fits goes on with the text's next line, no question says no
went_on : (L : Layout) (p : List (List ℕ)) (left l rest : List ℕ) (d : L.Content) (n : ℕ) → L.Fits d → GoesOn L p l d → Lacks 10 l → left ≡ ended l ++ rest → No L p left n → ⊥
went_on L p left l rest d n fits on hl e (absent lacks) = lacks_cut 10 l rest (subst (Lacks 10) (e ∙ append_assoc l (10 ∷ []) rest) lacks)
went_on L p left l rest d n fits on hl e (ill_formed m more hm is never) = never d (subst (λ k. GoesOn L p k d) (line_cut l m rest more hl hm (sym e ∙ is)).0 on)
went_on L p left l rest d n fits on hl e (too_small m more hm is c goes never) = never d fits (subst (λ k. GoesOn L p k d) (line_cut l m rest more hl hm (sym e ∙ is)).0 on)

-- one question says no at a line
one_no : (L : Layout) (p : List (List ℕ)) (left : List ℕ) (m n : ℕ) → No L p left m → No L p left n → m ≡ n
one_no L p left m n (absent lacks) (absent h) = refl
one_no L p left m n (absent lacks) (ill_formed l more hl e never) = absurd (lacks_cut 10 l more (subst (Lacks 10) (e ∙ append_assoc l (10 ∷ []) more) lacks))
one_no L p left m n (absent lacks) (too_small l more hl e c goes never) = absurd (lacks_cut 10 l more (subst (Lacks 10) (e ∙ append_assoc l (10 ∷ []) more) lacks))
one_no L p left m n (ill_formed l more hl e never) (absent lacks) = absurd (lacks_cut 10 l more (subst (Lacks 10) (e ∙ append_assoc l (10 ∷ []) more) lacks))
one_no L p left m n (ill_formed l more hl e never) (ill_formed k rest hk d none) = refl
one_no L p left m n (ill_formed l more hl e never) (too_small k rest hk d c goes none) = absurd (never c (subst (λ j. GoesOn L p j c) (line_cut k l rest more hk hl (sym d ∙ e)).0 goes))
one_no L p left m n (too_small l more hl e c goes never) (absent lacks) = absurd (lacks_cut 10 l more (subst (Lacks 10) (e ∙ append_assoc l (10 ∷ []) more) lacks))
one_no L p left m n (too_small l more hl e c goes never) (ill_formed k rest hk d none) = absurd (none c (subst (λ j. GoesOn L p j c) (line_cut l k more rest hl hk (sym e ∙ d)).0 goes))
one_no L p left m n (too_small l more hl e c goes never) (too_small k rest hk d c2 goes2 none) = refl

-- the lines that passed are clean, since a good content has them
front_clean : (ls ms : List (List ℕ)) → Clean (ls ++ ms) → Clean ls
front_clean [] ms h = tt
front_clean (l ∷ ls) ms h = (h.0, front_clean ls ms h.1)

module _ (L : Layout) (coded : Coded L) (clean : CleanLines L) where
  passed_clean : (k : ℕ) (bs : List ℕ) (f : Fault) (r : Refused L k bs f) → Clean r.passed
  passed_clean k bs f r = front_clean r.passed (r.wanted ∷ r.begins.more) (subst Clean r.begins.lines (clean r.content r.begins.good))

  -- a text that is refused begins with no more good lines
  no_further : (k : ℕ) (bs : List ℕ) (f : Fault) (r : Refused L k bs f) (d : L.Content) (ms more : List (List ℕ)) → L.Good d → L.Fits d → L.lines d ≡ ms ++ more → Further r.passed ms r.left → ⊥
  no_further k bs f r d ms more good fits is on =
      went_on L r.passed r.left on.line on.rest d r.number fits
      (record { good = good; more = on.more ++ more; lines = is ∙ ap (λ l. l ++ more) on.lines ∙ append_assoc r.passed (on.line ∷ on.more) more })
      on.lacks on.left r.no

  -- two refusals of a text are at the same line
  pub same_place : (k : ℕ) (bs : List ℕ) (f g : Fault) (a : Refused L k bs f) (b : Refused L k bs g) → (a.passed ≡ b.passed) × (a.left ≡ b.left)
  same_place k bs f g a b =
      ⊎_elim
      (λ (p : (a.passed ≡ b.passed) × (a.left ≡ b.left)). p)
      (λ (o : Further a.passed b.passed a.left ⊎ Further b.passed a.passed b.left). absurd (⊎_elim
      (λ (p : Further a.passed b.passed a.left). no_further k bs f a b.content b.passed _ b.begins.good b.fits b.begins.lines p)
      (λ (p : Further b.passed a.passed b.left). no_further k bs g b a.content a.passed _ a.begins.good a.fits a.begins.lines p)
      o))
      (order a.passed b.passed a.left b.left (passed_clean k bs f a) (passed_clean k bs g b) (sym a.split ∙ b.split))

  one_refusal : (k : ℕ) (bs : List ℕ) (f g : Fault) → Refused L k bs f → Refused L k bs g → told f ≡ told g
  one_refusal k bs f g a b =
      let p = same_place k bs f g a b in
      let moved : No L b.passed b.left a.number = subst (λ l. No L b.passed l a.number) p.1 (subst (λ l. No L l a.left a.number) p.0 a.no) in
      a.is ∙ ap (λ l. file_fault a.number (k + (length l + 1))) p.0 ∙ ap (λ n. file_fault n (k + (length b.passed + 1))) (one_no L b.passed b.left a.number b.number moved b.no) ∙ sym b.is

  -- a text that begins with all lines of a content that fits is not refused among them
  pub not_refused : (k : ℕ) (bs : List ℕ) (f : Fault) (d : L.Content) (rest : List ℕ) → L.Good d → L.Fits d → bs ≡ text_of (L.lines d) ++ rest → Refused L k bs f → ⊥
  not_refused k bs f d rest good fits is r =
      let inside : (m : List (List ℕ)) → L.lines r.content ≡ L.lines d ++ m → [] ≡ m = λ m e. (coded r.content d [] m r.begins.good good (append-nil (L.lines r.content) ∙ e)).1 in
      ⊎_elim
      (λ (p : (r.passed ≡ L.lines d) × (r.left ≡ rest)). nothing_is_some _ _ (inside (r.wanted ∷ r.begins.more) (r.begins.lines ∙ ap (λ l. l ++ r.wanted ∷ r.begins.more) p.0)))
      (λ (o : Further r.passed (L.lines d) r.left ⊎ Further (L.lines d) r.passed rest). ⊎_elim
      (λ (p : Further r.passed (L.lines d) r.left). no_further k bs f r d (L.lines d) [] good fits (sym (append-nil (L.lines d))) p)
      (λ (p : Further (L.lines d) r.passed rest). nothing_is_some _ _ (inside (p.line ∷ p.more ++ r.wanted ∷ r.begins.more)
      (r.begins.lines ∙ ap (λ l. l ++ r.wanted ∷ r.begins.more) p.lines ∙ append_assoc (L.lines d) (p.line ∷ p.more) (r.wanted ∷ r.begins.more))))
      o)
      (order r.passed (L.lines d) r.left rest (passed_clean k bs f r) (clean d good) (sym r.split ∙ is))

  -- two contents whose lines begin one text are one content
  pub one_content : (c d : L.Content) (r s : List ℕ) → L.Good c → L.Good d → text_of (L.lines c) ++ r ≡ text_of (L.lines d) ++ s → (c ≡ d) × (r ≡ s)
  one_content c d r s gc gd e =
      ⊎_elim
      (λ (p : (L.lines c ≡ L.lines d) × (r ≡ s)). ((coded c d [] [] gc gd (ap (λ l. l ++ []) p.0)).0, p.1))
      (λ (o : Further (L.lines c) (L.lines d) r ⊎ Further (L.lines d) (L.lines c) s). ⊎_elim
      (λ (p : Further (L.lines c) (L.lines d) r). absurd (nothing_is_some _ _ (coded d c [] (p.line ∷ p.more) gd gc (append-nil (L.lines d) ∙ p.lines)).1))
      (λ (p : Further (L.lines d) (L.lines c) s). absurd (nothing_is_some _ _ (coded c d [] (p.line ∷ p.more) gc gd (append-nil (L.lines c) ∙ p.lines)).1))
      o)
      (order (L.lines c) (L.lines d) r s (clean c gc) (clean d gd) e)

  -- a whole text: it is refused, or goes on too far
  pub one_fault : (bs : List ℕ) (f g : Fault) → Refused L 0 bs f ⊎ Surplus L bs f → Refused L 0 bs g ⊎ Surplus L bs g → told f ≡ told g
  one_fault bs f g (inl a) (inl b) = one_refusal 0 bs f g a b
  one_fault bs f g (inl a) (inr b) = absurd (not_refused 0 bs f b.content b.left b.good b.fits b.split a)
  one_fault bs f g (inr a) (inl b) = absurd (not_refused 0 bs g a.content a.left a.good a.fits a.split b)
  one_fault bs f g (inr a) (inr b) =
      a.is ∙ ap (λ c. file_fault 16 (length (L.lines c) + 1)) (one_content a.content b.content a.left b.left a.good b.good (sym a.split ∙ b.split)).0 ∙ sym b.is

  -- the text of a content that fits has no fault
  pub no_fault : (bs : List ℕ) (f : Fault) (d : L.Content) → L.Good d → L.Fits d → bs ≡ text_of (L.lines d) → Refused L 0 bs f ⊎ Surplus L bs f → ⊥
  no_fault bs f d good fits is (inl a) = not_refused 0 bs f d [] good fits (is ∙ sym (append-nil (text_of (L.lines d)))) a
  no_fault bs f d good fits is (inr a) = a.some (one_content a.content d a.left [] a.good good (sym a.split ∙ is ∙ sym (append-nil (text_of (L.lines d))))).1

-- one part after another, where the second may depend on what the first says
abbrev pub then : (L : Layout) → (L.Content → Layout) → Layout
then L M = record {
  Content = (x : L.Content) × (M x).Content;
  Good = λ c. L.Good c.0 × (M c.0).Good c.1;
  Fits = λ c. L.Fits c.0 × (M c.0).Fits c.1;
  lines = λ c. L.lines c.0 ++ (M c.0).lines c.1;
}

module _ (L : Layout) (M : L.Content → Layout) (coded : Coded L) where
  pub then_coded : ((x : L.Content) → Coded (M x)) → Coded (then L M)
  then_coded after c d r s gc gd e =
      let p = coded c.0 d.0 ((M c.0).lines c.1 ++ r) ((M d.0).lines d.1 ++ s) gc.0 gd.0
      (sym (append_assoc (L.lines c.0) ((M c.0).lines c.1) r) ∙ e ∙ append_assoc (L.lines d.0) ((M d.0).lines d.1) s) in
      let P : L.Content → Type 0 = λ x. (y : (M x).Content) → (M x).Good y → (M c.0).lines c.1 ++ r ≡ (M x).lines y ++ s → (◌≡◌ {A = (then L M).Content} c (x, y)) × (r ≡ s) in
      subst P p.0 (λ y gy h. let q = after c.0 c.1 y r s gc.1 gy h in (ap (λ z. (c.0, z)) q.0, q.1)) d.1 gd.1 p.1

  pub then_clean : CleanLines L → ((x : L.Content) → CleanLines (M x)) → CleanLines (then L M)
  then_clean first after c g = All-append (Lacks 10) (L.lines c.0) ((M c.0).lines c.1) (first c.0 g.0) (after c.0 c.1 g.1)

  -- a content that goes on after all lines of x goes on by its second part
  second : (x : L.Content) (p : List (List ℕ)) (l : List ℕ) (c : (then L M).Content) → L.Good x → GoesOn (then L M) (L.lines x ++ p) l c → (y : (M x).Content) × GoesOn (M x) p l y × ((M c.0).Fits c.1 → (M x).Fits y)
  second x p l c gx on =
      let e = coded x c.0 (p ++ l ∷ on.more) ((M c.0).lines c.1) gx on.good.0 (sym (on.lines ∙ append_assoc (L.lines x) p (l ∷ on.more))) in
      let P : L.Content → Type 0 = λ z. (y : (M z).Content) → (M z).Good y → p ++ l ∷ on.more ≡ (M z).lines y → (w : (M x).Content) × GoesOn (M x) p l w × ((M z).Fits y → (M x).Fits w) in
      subst P e.0 (λ y gy h. (y, record { good = gy; more = on.more; lines = sym h }, λ fits. fits)) c.1 on.good.1 e.1

  pub onto : (x : L.Content) (p : List (List ℕ)) (l : List ℕ) (y : (M x).Content) → L.Good x → GoesOn (M x) p l y → GoesOn (then L M) (L.lines x ++ p) l (x, y)
  onto x p l y gx on = record {
    good = (gx, on.good);
    more = on.more;
    lines = ap (λ k. L.lines x ++ k) on.lines ∙ sym (append_assoc (L.lines x) p (l ∷ on.more));
  }

  pub no_then : (x : L.Content) (p : List (List ℕ)) (left : List ℕ) (n : ℕ) → L.Good x → No (M x) p left n → No (then L M) (L.lines x ++ p) left n
  no_then x p left n gx (absent lacks) = absent lacks
  no_then x p left n gx (ill_formed l more hl e never) = ill_formed l more hl e (λ c on. let q = second x p l c gx on in never q.0 q.1)
  no_then x p left n gx (too_small l more hl e c goes never) = too_small l more hl e (x, c) (onto x p l c gx goes) (λ d fits on. let q = second x p l d gx on in never q.0 (q.2 fits.1) q.1)

  -- the first part is whole, and the second is refused
  unfoldable pub refused_then : (j k : ℕ) (bs more : List ℕ) (f : Fault) (x : L.Content) → L.Good x → L.Fits x → bs ≡ text_of (L.lines x) ++ more → j ≡ k + length (L.lines x) → Refused (M x) j more f → Refused (then L M) k bs f
  refused_then j k bs more f x gx fx is at r =
      let far : j + (length r.passed + 1) ≡ k + (length (L.lines x ++ r.passed) + 1) = simp length-append (omega arith) in
      record {
        content = (x, r.content);
        fits = (fx, r.fits);
        passed = L.lines x ++ r.passed;
        wanted = r.wanted;
        begins = onto x r.passed r.wanted r.content gx r.begins;
        left = r.left;
        split = is ∙ ap (λ l. text_of (L.lines x) ++ l) r.split ∙ sym (append_assoc (text_of (L.lines x)) (text_of r.passed) r.left) ∙ ap (λ l. l ++ r.left) (sym (text-append (L.lines x) r.passed));
        number = r.number;
        no = no_then x r.passed r.left r.number gx r.no;
        is = r.is ∙ ap (file_fault r.number) far;
      }

  -- a content that goes on inside the first part, of which x wants another line there
  first : (p : List (List ℕ)) (w l : List ℕ) (x : L.Content) (c : (then L M).Content) → GoesOn L p w x → GoesOn (then L M) p l c → GoesOn L p l c.0
  first p w l x c here on =
      ⊎_elim
      (λ (q : (m : List (List ℕ)) × (p ≡ L.lines c.0 ++ m)).
      absurd (nothing_is_more q.0 _ _
      (coded x c.0 [] (q.0 ++ w ∷ here.more) here.good on.good.0 (append-nil (L.lines x) ∙ here.lines ∙ ap (λ k. k ++ w ∷ here.more) q.1 ∙ append_assoc (L.lines c.0) q.0 (w ∷ here.more))).1))
      (λ (q : (m : List (List ℕ)) × (L.lines c.0 ≡ p ++ l ∷ m)). record { good = on.good.0; more = q.0; lines = q.1 })
      (meet (L.lines c.0) ((M c.0).lines c.1) p on.more l on.lines)

  module _ (rest : (x : L.Content) → (y : (M x).Content) × (M x).Good y × (M x).Fits y) where
    pub also : (p : List (List ℕ)) (l : List ℕ) (x : L.Content) → GoesOn L p l x → GoesOn (then L M) p l (x, (rest x).0)
    also p l x on = record {
      good = (on.good, (rest x).1);
      more = on.more ++ (M x).lines (rest x).0;
      lines = ap (λ k. k ++ (M x).lines (rest x).0) on.lines ∙ append_assoc p (l ∷ on.more) ((M x).lines (rest x).0);
    }

    pub no_first : (p : List (List ℕ)) (w left : List ℕ) (n : ℕ) (x : L.Content) → GoesOn L p w x → No L p left n → No (then L M) p left n
    no_first p w left n x here (absent lacks) = absent lacks
    no_first p w left n x here (ill_formed l more hl e never) = ill_formed l more hl e (λ c on. never c.0 (first p w l x c here on))
    no_first p w left n x here (too_small l more hl e c goes never) = too_small l more hl e (c, (rest c).0) (also p l c goes) (λ d fits on. never d.0 fits.0 (first p w l x d here on))

    -- the first part is refused; what may follow it is any content
    unfoldable pub refused_first : (k : ℕ) (bs : List ℕ) (f : Fault) → Refused L k bs f → Refused (then L M) k bs f
    refused_first k bs f r = record {
      content = (r.content, (rest r.content).0);
      fits = (r.fits, (rest r.content).2);
      passed = r.passed;
      wanted = r.wanted;
      begins = also r.passed r.wanted r.content r.begins;
      left = r.left;
      split = r.split;
      number = r.number;
      no = no_first r.passed r.wanted r.left r.number r.content r.begins r.no;
      is = r.is;
    }
