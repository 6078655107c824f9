-- One line, by its fields. Assumes nothing.
use Rattle.std.proofs.Common.{◌≡◌, ℕ, ◌+◌, List, [], ◌∷◌, ◌++◌, length, sym, refl, ap, ◌∙◌, subst, append-nil, arith}
use Rattle.std.specs.List.{AllByRecursion}
use Rattle.std.proofs.ByRecursion.{All-append}
use Rattle.fault.specs.declared.Fault.{Fault}
use Rattle.fault.specs.Told.{told, file_fault}
use Rattle.text.specs.declared.line.Line.{Line}
use Rattle.text.specs.declared.reader.Reader.{Reader}
use Rattle.text.specs.Fields.{Lacks, behind, spaced, fields}
use Rattle.text.specs.Lines.{ended, text_of, rest, Took, Cut}
use Rattle.text.specs.Layouts as layouts
use Rattle.text.specs.Layouts.{No, Refused}
use Rattle.text.proofs.Layouts.{nothing_is_more}
use Rattle.text.proofs.Splits.{fields-spaced, spaced-fields}
use Rattle.catalogue.specs.Forms.{Form, line_of, Plain, SomePlain, Lawful, Said, Unsaid}
use Rattle.catalogue.specs.Sections.{line_layout, Entered}

-- where one line is wanted, none has passed
only_line : (p : List (List ℕ)) (x w : List ℕ) (m : List (List ℕ)) → x ∷ [] ≡ p ++ w ∷ m → p ≡ []
only_line [] x w m e = refl
only_line (y ∷ p) x w m e = absurd (let tail : [] ≡ p ++ w ∷ m = cc in nothing_is_more p w m tail)

plain_spaces : (fs : List (List ℕ)) → AllByRecursion Plain fs → AllByRecursion (Lacks 32) fs
plain_spaces [] h = tt
plain_spaces (f ∷ fs) h = (h.0.0, plain_spaces fs h.1)

behind_clean : (fs : List (List ℕ)) → AllByRecursion Plain fs → Lacks 10 (behind fs)
behind_clean [] h = tt
behind_clean (f ∷ fs) h = ((λ e. omega (arith, e)), All-append (λ x. x ≡ 10 → ⊥) f (behind fs) h.0.1 (behind_clean fs h.1))

-- plain fields can be read back from their line, and the line has no byte 10
pub plain_back : (fs : List (List ℕ)) → SomePlain fs → fields (spaced fs) ≡ fs
plain_back [] h = absurd h
plain_back (f ∷ fs) h = fields-spaced f fs h.0.0 (plain_spaces fs h.1)

plain_clean : (fs : List (List ℕ)) → SomePlain fs → Lacks 10 (spaced fs)
plain_clean [] h = absurd h
plain_clean (f ∷ fs) h = All-append (λ x. x ≡ 10 → ⊥) f (behind fs) h.0.1 (behind_clean fs h.1)

-- the law of refusal at one line: bs has none, or it says no value of the form
pub data Broken {E : Type 0} (F : Form E) (bs : List ℕ) : ℕ → Type 0 where
  absent : Lacks 10 bs → Broken F bs 16
  ill_formed : (l more : List ℕ) → Lacks 10 l → bs ≡ ended l ++ more → ((x : F.Value) → F.Good x → l ≡ line_of F x → ⊥) → Broken F bs 15

pub record NotEntered {E : Type 0} (F : Form E) (k : ℕ) (bs : List ℕ) (f : Fault) : Type 0 where
  pub number : ℕ
  pub broken : Broken F bs number
  pub is : told f ≡ file_fault number (k + 1)

module _ {E : Type 0} (F : Form E) (lawful : Lawful F) where
  no_line : (bs : List ℕ) (n : ℕ) → Broken F bs n → No (line_layout F) [] bs n
  no_line bs n (absent lacks) = layouts.absent lacks
  no_line bs n (ill_formed l more hl e never) = layouts.ill_formed l more hl e (λ x on. let head : l ≡ line_of F x = cc in never x on.good head)

  pub line_refused : (k : ℕ) (bs : List ℕ) (f : Fault) → NotEntered F k bs f → Refused (line_layout F) k bs f
  line_refused k bs f none = record {
    content = lawful.example;
    fits = tt;
    passed = [];
    wanted = line_of F lawful.example;
    begins = record { good = lawful.example_good; more = []; lines = refl };
    left = bs;
    split = refl;
    number = none.number;
    no = no_line bs none.number none.broken;
    is = none.is;
  }

  broken : (bs : List ℕ) (n : ℕ) → No (line_layout F) [] bs n → Broken F bs n
  broken bs n (layouts.absent lacks) = absent lacks
  broken bs n (layouts.ill_formed l more hl e never) = ill_formed l more hl e (λ x good is. never x (record { good = good; more = []; lines = ap (λ k. k ∷ []) (sym is) }))
  broken bs n (layouts.too_small l more hl e x on never) = absurd (never x tt on)

  pub not_entered_by : (k : ℕ) (bs : List ℕ) (f : Fault) → Refused (line_layout F) k bs f → NotEntered F k bs f
  not_entered_by k bs f r =
      let none : r.passed ≡ [] = only_line r.passed (line_of F r.content) r.wanted r.begins.more r.begins.lines in
      let same : r.left ≡ bs = sym (r.split ∙ ap (λ p. text_of p ++ r.left) none) in
      record {
        number = r.number;
        broken = broken bs r.number (subst (λ l. No (line_layout F) [] l r.number) same (subst (λ p. No (line_layout F) p r.left r.number) none r.no));
        is = r.is ∙ ap (λ p. file_fault r.number (k + (length p + 1))) none;
      }

  pub line_clean : (x : F.Value) → F.Good x → Lacks 10 (line_of F x)
  line_clean x good = plain_clean (F.fields x) (lawful.plain x good)

  pub line_back : (x : F.Value) → F.Good x → fields (line_of F x) ≡ F.fields x
  line_back x good = plain_back (F.fields x) (lawful.plain x good)

  pub line_one : (x y : F.Value) → F.Good x → F.Good y → line_of F x ≡ line_of F y → x ≡ y
  line_one x y gx gy e = lawful.one x y gx gy (sym (line_back x gx) ∙ ap fields e ∙ line_back y gy)

  pub entered : (a b : Reader) (l : Line) (e : E) → Cut a b l → Said F l e → Entered F a b e
  entered a b l e cut said =
      let is : cut.bytes ≡ line_of F said.value = sym (spaced-fields cut.bytes) ∙ ap spaced (sym cut.fields ∙ said.fields) in
      record {
        value = said.value;
        good = said.good;
        took = subst (λ k. Took a b (k ∷ [])) is cut.took;
        entry = said.entry ∙ ap (λ p. F.entry p said.value) cut.start;
      }

  pub not_entered : (a b : Reader) (l : Line) (f : Fault) → Cut a b l → Unsaid F l f → NotEntered F a.line (rest a) f
  not_entered a b l f cut unsaid = record {
    number = 15;
    broken = ill_formed cut.bytes (rest b) cut.lacks (cut.took.front ∙ ap (λ k. k ++ rest b) (append-nil (ended cut.bytes)))
        (λ x good e. unsaid.never x good (cut.fields ∙ ap fields e ∙ line_back x good));
    is = unsaid.is ∙ ap (file_fault 15) cut.number;
  }
