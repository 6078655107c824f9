-- Sections: that their lines tell them apart, how a table fills, and where one is refused. Assumes nothing.
use Rattle.std.proofs.Common.{◌≡◌, ℕ, zero, suc, ◌+◌, ◌-◌, ◌<◌, ◌≤◌, ◌⊎◌, List, [], ◌∷◌, ◌++◌, map, length, get_or, take, drop, set, replicate, sym, refl, ap, ◌∙◌, subst, inl, inr, append_assoc, append-nil, add-zero, arith, length-append}
use lib.ListN.{length-replicate}
use Rattle.std.specs.List.{AllByRecursion}
use Rattle.std.proofs.ByRecursion.{All-push, All-append}
use Rattle.std.proofs.lemmas.List.Elements.{All-replicate, recursion_from_All}
use Rattle.std.proofs.lemmas.List.{length_push, length-map, length-take, drop_more, set_at, take_at, take-append-drop, drop-append-le, map-append}
use Rattle.fault.specs.declared.Fault.{Fault}
use Rattle.fault.specs.Told.{told, file_fault}
use Rattle.text.specs.declared.reader.Reader.{Reader}
use Rattle.text.specs.Fields.{Small}
use Rattle.text.specs.Lines.{ended, text_of, rest, Took}
use Rattle.text.specs.Layouts as layouts
use Rattle.text.specs.Layouts.{No, Refused}
use Rattle.text.proofs.Layouts.{Coded, Clean, CleanLines, nothing_is_some}
use Rattle.text.proofs.Takes.{took_more}
use Rattle.catalogue.specs.Forms.{Form, line_of, Lawful, number_form}
use Rattle.catalogue.specs.Sections.{section_lines, section_layout, line_layout, placed, entries, over, Entered, Counted, Crowded, Section, NoSection}
use Rattle.catalogue.specs.NumberLaws.{number_lawful}
use Rattle.catalogue.proofs.Lines.{Broken, absent, ill_formed, NotEntered, not_entered_by, line_clean, line_one}

-- a count tells its number
count_one : (m n : ℕ) → Small m → Small n → line_of number_form m ≡ line_of number_form n → m ≡ n
count_one m n hm hn e = line_one number_form number_lawful m n (hm, tt) (hn, tt) e

module _ {E : Type 0} (F : Form E) (law : Lawful F) where
  pub line_coded : Coded (line_layout F)
  line_coded x y r s gx gy e =
      let head : line_of F x ≡ line_of F y = cc in
      let tail : r ≡ s = cc in
      (line_one F law x y gx gy head, tail)

  pub line_lines_clean : CleanLines (line_layout F)
  line_lines_clean x good = (line_clean F law x good, tt)

  rows_coded : (xs ys : List F.Value) (r s : List (List ℕ)) → AllByRecursion F.Good xs → AllByRecursion F.Good ys → length xs ≡ length ys → map (line_of F) xs ++ r ≡ map (line_of F) ys ++ s → (xs ≡ ys) × (r ≡ s)
  rows_coded [] [] r s gx gy long e = (refl, e)
  rows_coded [] (y ∷ ys) r s gx gy long e = absurd (omega arith)
  rows_coded (x ∷ xs) [] r s gx gy long e = absurd (omega arith)
  rows_coded (x ∷ xs) (y ∷ ys) r s gx gy long e =
      let head : line_of F x ≡ line_of F y = cc in
      let tail : map (line_of F) xs ++ r ≡ map (line_of F) ys ++ s = cc in
      let p = line_one F law x y gx.0 gy.0 head in
      let q = rows_coded xs ys r s gx.1 gy.1 (omega arith) tail in
      ((λ i. p i ∷ q.0 i), q.1)

  pub section_coded : (room : ℕ) → Coded (section_layout F room)
  section_coded room xs ys r s gx gy e =
      let head : line_of number_form (length xs) ≡ line_of number_form (length ys) = cc in
      let tail : map (line_of F) xs ++ r ≡ map (line_of F) ys ++ s = cc in
      rows_coded xs ys r s gx.0 gy.0 (count_one (length xs) (length ys) gx.1 gy.1 head) tail

  rows_clean : (xs : List F.Value) → AllByRecursion F.Good xs → Clean (map (line_of F) xs)
  rows_clean [] good = tt
  rows_clean (x ∷ xs) good = (line_clean F law x good.0, rows_clean xs good.1)

  pub section_clean : (room : ℕ) → CleanLines (section_layout F room)
  section_clean room xs good = (line_clean number_form number_lawful (length xs) (good.1, tt), rows_clean xs good.0)

  examples_good : (n : ℕ) → AllByRecursion F.Good (replicate n law.example)
  examples_good n = recursion_from_All F.Good (replicate n law.example) (All-replicate F.Good n law.example law.example_good)

  -- where the entries go
  placed-append : (at : ℕ) (xs ys : List F.Value) → placed F at (xs ++ ys) ≡ placed F at xs ++ placed F (at + length (text_of (map (line_of F) xs))) ys
  placed-append at [] ys = ap (λ k. placed F k ys) (sym (add-zero at))
  placed-append at (x ∷ xs) ys =
      ap (λ l. F.entry at x ∷ l)
      (placed-append (at + length (ended (line_of F x))) xs ys
      ∙ ap (λ k. placed F (at + length (ended (line_of F x))) xs ++ placed F k ys) (simp length-append (omega arith)))

  pub placed-length : (at : ℕ) (xs : List F.Value) → length (placed F at xs) ≡ length xs
  placed-length at [] = refl
  placed-length at (x ∷ xs) = simp (placed-length (at + length (ended (line_of F x))) xs)

  -- the values of lines that passed are told by the lines
  pub rows_same : (xs ys : List F.Value) (ls x y : List (List ℕ)) → AllByRecursion F.Good xs → AllByRecursion F.Good ys → map (line_of F) xs ≡ ls ++ x → map (line_of F) ys ≡ ls ++ y → take (length ls) xs ≡ take (length ls) ys
  rows_same xs ys [] x y gx gy ex ey = refl
  rows_same [] ys (l ∷ ls) x y gx gy ex ey = absurd (nothing_is_some l (ls ++ x) ex)
  rows_same (v ∷ xs) [] (l ∷ ls) x y gx gy ex ey = absurd (nothing_is_some l (ls ++ y) ey)
  rows_same (v ∷ xs) (w ∷ ys) (l ∷ ls) x y gx gy ex ey =
      let head : line_of F v ≡ line_of F w = cc in
      let p = line_one F law v w gx.0 gy.0 head in
      let q = rows_same xs ys ls x y gx.1 gy.1 (cc) (cc) in
      λ i. p i ∷ q i

  pub counts_same : (xs ys : List F.Value) (l : List ℕ) (x y : List (List ℕ)) → Small (length xs) → Small (length ys) → section_lines F xs ≡ l ∷ x → section_lines F ys ≡ l ∷ y → length xs ≡ length ys
  counts_same xs ys l x y sx sy ex ey =
      let head : line_of number_form (length xs) ≡ line_of number_form (length ys) = cc in
      count_one (length xs) (length ys) sx sy head

  pub take-placed : (k at : ℕ) (xs : List F.Value) → take k (placed F at xs) ≡ placed F at (take k xs)
  take-placed zero at xs = refl
  take-placed (suc k) at [] = refl
  take-placed (suc k) at (x ∷ xs) = ap (λ l. F.entry at x ∷ l) (take-placed k (at + length (ended (line_of F x))) xs)

  -- the first i values are read, between a and b, and the table went from `before` to `after`
  pub record Rows (a b : Reader) (before after : List E) (i : ℕ) : Type 0 where
    pub values : List F.Value
    pub good : AllByRecursion F.Good values
    pub count : length values ≡ i
    pub took : Took a b (map (line_of F) values)
    pub table : after ≡ over (placed F a.at values) before

  pub rows_more : (a b c : Reader) (t u : List E) (i : ℕ) (e : E) → i < length t → Rows a b t u i → Entered F b c e → Rows a c t (set u i e) (i + 1)
  rows_more a b c t u i e lt rows entered =
      let vs = rows.values in
      let x = entered.value in
      let front = placed F a.at vs in
      let long : length front ≡ i = placed-length a.at vs ∙ rows.count in
      let grown : placed F a.at (vs ++ x ∷ []) ≡ front ++ e ∷ [] =
      placed-append a.at vs (x ∷ []) ∙ ap (λ k. front ++ F.entry k x ∷ []) (sym rows.took.at) ∙ ap (λ y. front ++ y ∷ []) (sym entered.entry) in
      let longer : length (placed F a.at (vs ++ x ∷ [])) ≡ i + 1 = placed-length a.at (vs ++ x ∷ []) ∙ length_push vs x ∙ ap (λ n. n + 1) rows.count in
      record {
        values = vs ++ x ∷ [];
        good = All-push F.Good vs x rows.good entered.good;
        count = length_push vs x ∙ ap (λ n. n + 1) rows.count;
        took = subst (Took a c) (sym (map-append (line_of F) vs (x ∷ []))) (took_more a b c (map (line_of F) vs) (line_of F x ∷ []) rows.took entered.took);
        table =
            ap (λ l. set l i e) (rows.table ∙ ap (λ n. front ++ drop n t) long ∙ ap (λ l. front ++ l) (drop_more t i e lt))
            ∙ set_at front (get_or t i e) (drop (i + 1) t) e i long
            ∙ sym (append_assoc front (e ∷ []) (drop (i + 1) t))
            ∙ ap (λ l. l ++ drop (i + 1) t) (sym grown)
            ∙ ap (λ n. placed F a.at (vs ++ x ∷ []) ++ drop n t) (sym longer);
      }

  -- the same of a whole table, when its first n entries are filled
  pub rows_within : (a b : Reader) (t u : List E) (n i : ℕ) → i ≤ n → n ≤ length t → Rows a b (take n t) u i → Rows a b t (u ++ drop n t) i
  rows_within a b t u n i le fits rows =
      let front = placed F a.at rows.values in
      let long : length front ≡ i = placed-length a.at rows.values ∙ rows.count in
      let inside : length front ≤ length (take n t) = omega (arith, length-take n t) in
      record {
        values = rows.values;
        good = rows.good;
        count = rows.count;
        took = rows.took;
        table =
            ap (λ l. l ++ drop n t) rows.table
            ∙ append_assoc front (drop (length front) (take n t)) (drop n t)
            ∙ ap (λ l. front ++ l) (sym (drop-append-le (length front) (take n t) (drop n t) inside) ∙ ap (drop (length front)) (take-append-drop n t));
      }

  pub section_all : (a b c : Reader) (t u : List E) (n i : ℕ) → Counted (length t) a b n → i ≡ n → Rows b c t u i → Section F a c t u n
  section_all a b c t u n i counted all rows =
      let count : n ≡ length rows.values = sym (rows.count ∙ all) in
      let begin : b.at ≡ a.at + length (ended (line_of number_form n)) = counted.took.at ∙ ap (λ l. a.at + length l) (append-nil (ended (line_of number_form n))) in
      record {
        values = rows.values;
        good = (rows.good, subst Small count counted.small);
        fits = omega (arith, count, counted.fits);
        count = count;
        took = subst (λ k. Took a c (line_of number_form k ∷ map (line_of F) rows.values)) count (took_more a b c (line_of number_form n ∷ []) (map (line_of F) rows.values) counted.took rows.took);
        table =
            rows.table
            ∙ ap (λ k. over (placed F k rows.values) t) begin
            ∙ ap (λ k. over (placed F (a.at + length (ended (line_of number_form k))) rows.values) t) count;
      }

  -- the count is refused
  no_count : (a : Reader) (room : ℕ) (n : ℕ) → Broken number_form (rest a) n → No (section_layout F room) [] (rest a) n
  no_count a room n (absent lacks) = layouts.absent lacks
  no_count a room n (ill_formed l more hl e never) =
      layouts.ill_formed l more hl e (λ xs on. let head : l ≡ line_of number_form (length xs) = cc in never (length xs) (on.good.1, tt) head)

  crowded : (a : Reader) (room : ℕ) (f : Fault) → Crowded room a f → No (section_layout F room) [] (rest a) 17
  crowded a room f crowd =
      let n = crowd.count in
      let many : length (replicate n law.example) ≡ n = length-replicate n law.example in
      layouts.too_small (line_of number_form n) crowd.more (line_clean number_form number_lawful n (crowd.small, tt)) crowd.split
      (replicate n law.example)
      (record { good = (examples_good n, subst Small (sym many) crowd.small); more = map (line_of F) (replicate n law.example); lines = ap (λ k. line_of number_form k ∷ map (line_of F) (replicate n law.example)) many })
      (λ xs fits on.
      let head : line_of number_form (length xs) ≡ line_of number_form n = cc in
      omega (arith, count_one (length xs) n on.good.1 crowd.small head, crowd.large, fits))

  at_count : (a : Reader) (t : List E) (f : Fault) (n : ℕ) → No (section_layout F (length t)) [] (rest a) n → told f ≡ file_fault n (a.line + 1) → NoSection F a t t f
  at_count a t f n none is = record {
    refused = record {
      content = [];
      fits = omega arith;
      passed = [];
      wanted = line_of number_form 0;
      begins = record { good = (tt, omega arith); more = []; lines = refl };
      left = rest a;
      split = refl;
      number = n;
      no = none;
      is = is;
    };
    table = refl;
  }

  pub counts_not : (a : Reader) (t : List E) (f : Fault) → Refused (line_layout number_form) a.line (rest a) f ⊎ Crowded (length t) a f → NoSection F a t t f
  counts_not a t f (inl refused) =
      let none = not_entered_by number_form number_lawful a.line (rest a) f refused in
      at_count a t f none.number (no_count a (length t) none.number none.broken) none.is
  counts_not a t f (inr crowd) = at_count a t f 17 (crowded a (length t) f crowd) crowd.is

  -- a line among the rows of ys is one of them
  row_of : (vs ys : List F.Value) (l : List ℕ) (more : List (List ℕ)) → AllByRecursion F.Good ys → map (line_of F) ys ≡ map (line_of F) vs ++ l ∷ more → (y : F.Value) × F.Good y × (l ≡ line_of F y)
  row_of [] [] l more good e = absurd (nothing_is_some l more e)
  row_of (v ∷ vs) [] l more good e = absurd (nothing_is_some _ _ e)
  row_of [] (y ∷ ys) l more good e = (y, good.0, cc)
  row_of (v ∷ vs) (y ∷ ys) l more good e = row_of vs ys l more good.1 (cc)

  -- a row is refused
  no_row : (vs : List F.Value) (room m : ℕ) (bs : List ℕ) (n : ℕ) → Broken F bs n → No (section_layout F room) (line_of number_form m ∷ map (line_of F) vs) bs n
  no_row vs room m bs n (absent lacks) = layouts.absent lacks
  no_row vs room m bs n (ill_formed l more hl e never) =
      layouts.ill_formed l more hl e
      (λ xs on.
      let tail : map (line_of F) xs ≡ map (line_of F) vs ++ l ∷ on.more = cc in
      let q = row_of vs xs l on.more on.good.0 tail in
      never q.0 q.1 q.2)

  module _ (a b c : Reader) (t u : List E) (n i : ℕ) (f : Fault) (counted : Counted (length t) a b n) (rows : Rows b c t u i) (lt : i < n) (refused : Refused (line_layout F) c.line (rest c) f) where
    none : NotEntered F c.line (rest c) f
    none = not_entered_by F law c.line (rest c) f refused

    -- the values that are read, and as many examples as the count wants more
    abbrev pad : List F.Value
    pad = replicate (n - (i + 1)) law.example

    abbrev padded : List F.Value
    padded = rows.values ++ law.example ∷ pad

    padded_length : length padded ≡ n
    padded_length = simp (length-append, length-replicate) (omega (arith, rows.count))

    padded_good : AllByRecursion F.Good padded
    padded_good = All-append F.Good rows.values (law.example ∷ pad) rows.good (law.example_good, examples_good (n - (i + 1)))

    abbrev passed : List (List ℕ)
    passed = line_of number_form n ∷ map (line_of F) rows.values

    took_passed : Took a c passed
    took_passed = took_more a b c (line_of number_form n ∷ []) (map (line_of F) rows.values) counted.took rows.took

    padded_lines : section_lines F padded ≡ passed ++ line_of F law.example ∷ map (line_of F) pad
    padded_lines = (λ j. line_of number_form (padded_length j) ∷ map-append (line_of F) rows.values (law.example ∷ pad) j)

    padded_front : take (length passed - 1) (entries F a.at padded) ≡ placed F b.at rows.values
    padded_front =
        let start : a.at + length (ended (line_of number_form n)) ≡ b.at = sym (counted.took.at ∙ ap (λ l. a.at + length l) (append-nil (ended (line_of number_form n)))) in
        let long : length passed - 1 ≡ length (placed F b.at rows.values) = simp length-map (omega (arith, placed-length b.at rows.values)) in
        ap (λ k. take k (entries F a.at padded)) long
        ∙ ap (take (length (placed F b.at rows.values))) (ap (λ k. placed F (a.at + length (ended (line_of number_form k))) padded) padded_length ∙ ap (λ k. placed F k padded) start ∙ placed-append b.at rows.values (law.example ∷ pad))
        ∙ take_at (placed F b.at rows.values) _ (length (placed F b.at rows.values)) refl

    pub rows_not : NoSection F a t u f
    rows_not = record {
      refused = record {
        content = padded;
        fits = omega (arith, padded_length, counted.fits);
        passed = passed;
        wanted = line_of F law.example;
        begins = record { good = (padded_good, subst Small (sym padded_length) counted.small); more = map (line_of F) pad; lines = padded_lines };
        left = rest c;
        split = took_passed.front;
        number = none.number;
        no = no_row rows.values (length t) n (rest c) none.number none.broken;
        is = none.is ∙ ap (file_fault none.number) (omega (arith, took_passed.line));
      };
      table = rows.table ∙ ap (λ l. over l t) (sym padded_front);
    }
