-- A text is accepted or denied as a whole. Assumes nothing.
use Rattle.std.proofs.Common.{◌≡◌, ℕ, ◌+◌, ◌-◌, ◌<◌, ◌⊎◌, List, [], ◌∷◌, ◌++◌, map, length, take, drop, decimal, sym, refl, ap, ◌∙◌, subst, inl, inr, append_assoc, append-nil, arith, length-append}
use Rattle.std.proofs.lemmas.List.{take_at, drop_at}
use Rattle.diagram.specs.declared.BitNode.{BitNode}
use Rattle.diagram.specs.declared.ColumnNode.{ColumnNode}
use Rattle.fault.specs.declared.Fault.{Fault}
use Rattle.fault.specs.Told.{told, file_fault}
use Rattle.text.specs.declared.reader.Reader.{Reader}
use Rattle.text.specs.Lines.{ended, text_of, Fresh, rest}
use Rattle.text.specs.Layouts.{GoesOn, No, absent, ill_formed, too_small, Refused, Surplus}
use Rattle.text.proofs.Layouts.{Coded, CleanLines, same_place, not_refused, one_content, one_fault, no_fault, text-append}
use Rattle.text.proofs.Parts.{Reads, Stops}
use Rattle.catalogue.specs.declared.entries.Contents.{Contents}
use Rattle.catalogue.specs.declared.entries.Kind.{Kind}
use Rattle.catalogue.specs.declared.entries.Kind.TheVariants.{Bit, Column}
use Rattle.catalogue.specs.Forms.{line_of, number_form}
use Rattle.catalogue.specs.Sections.{section_lines, placed}
use Rattle.catalogue.specs.Content.{kind_form, Named, feature_form, bit_form, column_form, call_form, RecordsOf, record_lines, Content, Tables, lines, Good, Fits, catalogue_layout}
use Rattle.catalogue.specs.Whole.{feature_entries, bit_table, column_table, bits_over, columns_over, record_count, held, full, contents, NamesIn, Accepted, Stopped, inside, behind, Denied}
use Rattle.catalogue.specs.WordLaws.{feature_lawful}
use Rattle.catalogue.proofs.Filled.{placed-length}
use Rattle.catalogue.proofs.Stages.{from_kind, from_kind_sound, pack, unpack, filled_all, section_length}

-- a new reader has all of its text before it
from_start : (s : Reader) (bs : List ℕ) → Fresh bs s → rest s ≡ bs
from_start s bs fresh = ap (λ k. drop k s.text.now) fresh.at ∙ fresh.text

module _ (r : Tables) where
  abbrev Parts : Type 0
  Parts = (from_kind r).layout.Content

  pack_good : (c : Content) → Good c → (from_kind r).layout.Good (pack r c)
  pack_good c g = (tt, (g.features, (g.records, (tt, ((g.start, tt), (g.prices, g.calls))))))

  unpack_good : (v : Parts) → (from_kind r).layout.Good v → Good (unpack r v)
  unpack_good v g = record { features = g.1.0; records = g.1.1.0; start = g.1.1.1.1.0.0; prices = g.1.1.1.1.1.0; calls = g.1.1.1.1.1.1 }

  pack_fits : (c : Content) → Fits r c → (from_kind r).layout.Fits (pack r c)
  pack_fits c f = (tt, (f.features, (f.records, (tt, (tt, (f.prices, f.calls))))))

  unpack_fits : (v : Parts) → (from_kind r).layout.Fits v → Fits r (unpack r v)
  unpack_fits v f = record { features = f.1.0; records = f.1.1.0; prices = f.1.1.1.1.1.0; calls = f.1.1.1.1.1.1 }

  catalogue_coded : Coded (catalogue_layout r)
  catalogue_coded c d x y gc gd e =
      let p = (from_kind_sound r).coded (pack r c) (pack r d) x y (pack_good c gc) (pack_good d gd) e in
      (ap (unpack r) p.0, p.1)

  catalogue_clean : CleanLines (catalogue_layout r)
  catalogue_clean c g = (from_kind_sound r).clean (pack r c) (pack_good c g)

  goes : (p : List (List ℕ)) (l : List ℕ) (v : Parts) → GoesOn (from_kind r).layout p l v → GoesOn (catalogue_layout r) p l (unpack r v)
  goes p l v on = record { good = unpack_good v on.good; more = on.more; lines = on.lines }

  went : (p : List (List ℕ)) (l : List ℕ) (c : Content) → GoesOn (catalogue_layout r) p l c → GoesOn (from_kind r).layout p l (pack r c)
  went p l c on = record { good = pack_good c on.good; more = on.more; lines = on.lines }

  no_moved : (p : List (List ℕ)) (left : List ℕ) (n : ℕ) → No (from_kind r).layout p left n → No (catalogue_layout r) p left n
  no_moved p left n (absent lacks) = absent lacks
  no_moved p left n (ill_formed l more hl e never) = ill_formed l more hl e (λ c on. never (pack r c) (went p l c on))
  no_moved p left n (too_small l more hl e v on never) = too_small l more hl e (unpack r v) (goes p l v on) (λ c fits at. never (pack r c) (pack_fits c fits) (went p l c at))

  either : (bs : List ℕ) (u : Tables) (f : Fault) → Stopped bs r u f → Refused (catalogue_layout r) 0 bs f ⊎ Surplus (catalogue_layout r) bs f
  either bs u f (inside x e) = inl x
  either bs u f (behind x e) = inr x

  -- the tables are told by the text
  same_tables : (bs : List ℕ) (u v : Tables) (f g : Fault) → Stopped bs r u f → Stopped bs r v g → v ≡ u
  same_tables bs u v f g (inside x e) (inside y d) =
      let at = (same_place (catalogue_layout r) catalogue_coded catalogue_clean 0 bs g f y x).0 in
      d
      ∙ ap (λ l. held (length l) y.content r) at
      ∙ (from_kind_sound r).same (pack r y.content) (pack r x.content) x.passed (y.wanted ∷ y.begins.more) (x.wanted ∷ x.begins.more) r (pack_good y.content y.begins.good) (pack_good x.content x.begins.good) (y.begins.lines ∙ ap (λ l. l ++ y.wanted ∷ y.begins.more) at) x.begins.lines
      ∙ sym e
  same_tables bs u v f g (inside x e) (behind y d) = absurd (not_refused (catalogue_layout r) catalogue_coded catalogue_clean 0 bs f y.content y.left y.good y.fits y.split x)
  same_tables bs u v f g (behind x e) (inside y d) = absurd (not_refused (catalogue_layout r) catalogue_coded catalogue_clean 0 bs g x.content x.left x.good x.fits x.split y)
  same_tables bs u v f g (behind x e) (behind y d) =
      d ∙ ap (λ c. full c r) (one_content (catalogue_layout r) catalogue_coded catalogue_clean y.content x.content y.left x.left y.good x.good (sym y.split ∙ x.split)).0 ∙ sym e

  denied_by : (bs : List ℕ) (u : Tables) (f : Fault) → Stopped bs r u f → Denied bs r u f
  denied_by bs u f stopped = record {
    stopped = stopped;
    only = λ v g other. (one_fault (catalogue_layout r) catalogue_coded catalogue_clean bs g f (either bs v g other) (either bs u f stopped), same_tables bs u v f g stopped other);
    never = λ c good fits is. no_fault (catalogue_layout r) catalogue_coded catalogue_clean bs f c good fits is (either bs u f stopped);
  }

  denied_at : (bs : List ℕ) (u : Tables) (f : Fault) → Stops (from_kind r) 0 bs r u f → Denied bs r u f
  denied_at bs u f stops =
      let x = stops.refused in
      denied_by bs u f
      (inside
      (record {
        content = unpack r x.content;
        fits = unpack_fits x.content x.fits;
        passed = x.passed;
        wanted = x.wanted;
        begins = goes x.passed x.wanted x.content x.begins;
        left = x.left;
        split = x.split;
        number = x.number;
        no = no_moved x.passed x.left x.number x.no;
        is = x.is;
      })
      stops.table)

  pub denied : (s : Reader) (bs : List ℕ) (u : Tables) (f : Fault) → Fresh bs s → Stops (from_kind r) s.line (rest s) r u f → Denied bs r u f
  denied s bs u f fresh stops = denied_at bs u f (subst (λ b. Stops (from_kind r) 0 b r u f) (from_start s bs fresh) (subst (λ k. Stops (from_kind r) k (rest s) r u f) fresh.line stops))

record_length : (kind : Kind) (rs : RecordsOf kind) → length (record_lines kind rs) ≡ record_count kind rs + 1
record_length Bit rs = section_length bit_form rs
record_length Column rs = section_length column_form rs

bits_all : (kind : Kind) (k : ℕ) (rs : RecordsOf kind) (table : List BitNode) → record_count kind rs < k → bit_table kind k rs table ≡ bits_over kind rs table
bits_all Bit k rs table lt = filled_all k rs table lt
bits_all Column k rs table lt = refl

columns_all : (kind : Kind) (k : ℕ) (rs : RecordsOf kind) (table : List ColumnNode) → record_count kind rs < k → column_table kind k rs table ≡ columns_over kind rs table
columns_all Bit k rs table lt = refl
columns_all Column k rs table lt = filled_all k rs table lt

-- after all lines the tables are full
held_full : (c : Content) (t : Tables) → held (length (lines c)) c t ≡ full c t
held_full c t =
    let A = length (section_lines feature_form c.features) in
    let B = length (record_lines c.kind c.records) in
    let P = length (section_lines number_form c.prices) in
    let C = length (section_lines call_form c.calls) in
    let a = section_length feature_form c.features in
    let b = record_length c.kind c.records in
    let p = section_length number_form c.prices in
    let d = section_length call_form c.calls in
    let n : length (feature_entries c) ≡ length c.features = placed-length feature_form feature_lawful _ c.features in
    let total : length (lines c) ≡ 1 + (A + (B + (2 + (P + C)))) = simp length-append (omega arith) in
    λ i. record {
      features = filled_all (length (lines c) - 1) (feature_entries c) t.features (omega arith) i;
      bits = bits_all c.kind (length (lines c) - 1 - A) c.records t.bits (omega arith) i;
      columns = columns_all c.kind (length (lines c) - 1 - A) c.records t.columns (omega arith) i;
      prices = filled_all (length (lines c) - 1 - A - B - 1 - 1) c.prices t.prices (omega arith) i;
      calls = filled_all (length (lines c) - 1 - A - B - 1 - 1 - P) c.calls t.calls (omega arith) i;
    }

-- where the names stand
regroup : (pre name mid tail post : List ℕ) → pre ++ ((((name ++ (32 ∷ (mid ++ []))) ++ (10 ∷ [])) ++ tail) ++ post) ≡ pre ++ (name ++ 32 ∷ (mid ++ 10 ∷ (tail ++ post)))
regroup pre name mid tail post = simp (append_assoc, append-nil)

pushed : (pre line tail post : List ℕ) → pre ++ ((line ++ tail) ++ post) ≡ (pre ++ line) ++ (tail ++ post)
pushed pre line tail post = simp append_assoc

names_in : (bs pre post : List ℕ) (xs : List Named) → bs ≡ pre ++ (text_of (map (line_of feature_form) xs) ++ post) → NamesIn bs (placed feature_form (length pre) xs) xs
names_in bs pre post [] e = tt
names_in bs pre post (x ∷ xs) e =
    let tail = text_of (map (line_of feature_form) xs) in
    let more = 32 ∷ (decimal x.values ++ 10 ∷ (tail ++ post)) in
    let split : bs ≡ pre ++ (x.name ++ more) = e ∙ regroup pre x.name (decimal x.values) tail post in (
      omega (arith, simp length-append at (ap length split)),
      ap (λ l. take (length x.name) (drop (length pre) l)) split ∙ ap (take (length x.name)) (drop_at pre (x.name ++ more) (length pre) refl) ∙ take_at x.name more (length x.name) refl,
      subst (λ k. NamesIn bs (placed feature_form k xs) xs) (length-append pre (ended (line_of feature_form x)))
          (names_in bs (pre ++ ended (line_of feature_form x)) post xs (e ∙ pushed pre (ended (line_of feature_form x)) tail post)),
    )

-- the features follow line 1 and their count
names_stand : (bs : List ℕ) (c : Content) → bs ≡ text_of (lines c) → NamesIn bs (feature_entries c) c.features
names_stand bs c e =
    let first = ended (line_of kind_form c.kind) in
    let count = ended (line_of number_form (length c.features)) in
    let rows = map (line_of feature_form) c.features in
    let behind = record_lines c.kind c.records ++ (section_lines number_form (c.start ∷ []) ++ (section_lines number_form c.prices ++ section_lines call_form c.calls)) in
    let split : text_of (lines c) ≡ (first ++ count) ++ (text_of rows ++ text_of behind) =
    ap (λ l. first ++ (count ++ l)) (text-append rows behind) ∙ sym (append_assoc first count (text_of rows ++ text_of behind)) in
    subst (λ k. NamesIn bs (placed feature_form k c.features) c.features) (length-append first count)
    (names_in bs (first ++ count) (text_of behind) c.features (e ∙ split))

module _ (r : Tables) (s m : Reader) (bs : List ℕ) (u : Tables) (v : (from_kind r).layout.Content) (fresh : Fresh bs s) (reads : Reads (from_kind r) s m r u v) where
  whole_tables : u ≡ full (unpack r v) r
  whole_tables = reads.table ∙ held_full (unpack r v) r

  -- all is read, and nothing is left
  pub accepted : (x : Contents) → rest m ≡ [] → x ≡ contents (unpack r v) → Accepted bs r u x
  accepted x end result =
      let is : bs ≡ text_of (lines (unpack r v)) = sym (from_start s bs fresh) ∙ reads.took.front ∙ ap (λ l. text_of (lines (unpack r v)) ++ l) end ∙ append-nil (text_of (lines (unpack r v))) in
      let good = unpack_good r v reads.good in
      record {
        content = unpack r v;
        good = good;
        fits = unpack_fits r v reads.fits;
        text = is;
        only = λ c gc e. (one_content (catalogue_layout r) (catalogue_coded r) (catalogue_clean r) c (unpack r v) [] [] gc good (ap (λ l. l ++ []) (sym e ∙ is))).0;
        tables = whole_tables;
        names = names_stand bs (unpack r v) is;
        result = result;
      }

  -- all is read, and something is left
  pub surplus : (f : Fault) → told f ≡ file_fault 16 (m.line + 1) → (rest m ≡ [] → ⊥) → Denied bs r u f
  surplus f is some =
      denied_by r bs u f
      (behind
      (record {
        content = unpack r v;
        good = unpack_good r v reads.good;
        fits = unpack_fits r v reads.fits;
        left = rest m;
        some = some;
        split = sym (from_start s bs fresh) ∙ reads.took.front;
        is = is ∙ ap (file_fault 16) (omega (arith, reads.took.line, fresh.line));
      })
      whole_tables)
