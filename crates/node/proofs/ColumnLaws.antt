-- A table of columns that passed its check keeps the laws of a rule book.
use Rattle.std.proofs.Common.{◌≡◌, ℕ, ◌+◌, ◌<◌, ◌≤◌, true, List, [], ◌∷◌, length, get_or, is_some, Some, None, sym, ap, ◌∙◌, ⊎_elim, arith}
use Rattle.std.proofs.lemmas.List.{get_or_past}
use Rattle.std.proofs.lemmas.Bool.{cases_lt}
use Rattle.book.specs.Books.{BookLaws, FullSet, walk_of}
use Rattle.diagram.specs.declared.ColumnNode.{ColumnNode}
use Rattle.node.specs.Forms.{Well, place_of_link}
use Rattle.node.specs.Columns.{Reads, column_book, column_form, column_step}
use Rattle.node.proofs.ColumnLinks.{Linked, linked_of, at_link, step_none, step_some}
use Rattle.node.proofs.ColumnReading.{Rest, Stands, reads_inside, chain_found, chain_stands, reads_walks, walks_reads}
use Rattle.node.proofs.Places.{none_if, place_some, place_is, walk_some}

module _ (ds : List ℕ) (rs : List ColumnNode) (start : ℕ) (well : Well column_form ds rs start) where
  abbrev linked : Linked ds rs
  linked = linked_of ds rs start well

  stays_within : (f p v q : ℕ) → column_step ds rs f p v ≡ Some q → q < length rs + 2
  stays_within f p v q e =
      let t = step_some ds rs f p v q e in
      let s = chain_stands ds rs start linked (get_or ds f 0) f p v q t.0 t.1 t.2 in
      ⊎_elim (λ (m : f + 1 < length ds). (s.0 m).0.1) (λ (m : length ds ≤ f + 1). let one = s.1 m in omega arith) (cases_lt (f + 1) (length ds))

  stops_value : (f p v : ℕ) → get_or ds f 0 ≤ v → column_step ds rs f p v ≡ None
  stops_value f p v past =
      none_if (column_step ds rs f p v)
      (λ q e.
      let s = step_some ds rs f p v q e in
      let t = chain_found ds rs start linked (get_or ds f 0) p v q s.0 s.2 in
      let r = at_link ds rs linked t.at t.inside in
      let d = ap (λ (k : ℕ). get_or ds k 0) (t.column ∙ s.1) in
      let known = r.known.1 in
      let same = t.value in
      omega arith)

  full_rest : (xs : List ℕ) → FullSet (column_book ds rs start) xs → Rest ds rs start linked 0 xs
  full_rest xs full =
      let size = full.size in (
        omega arith,
        λ i k h at. let same : k ≡ i = omega arith in rw same (full.each i (omega arith)),
      )

  first_stands : 1 ≤ start → Stands ds rs start linked 0 start
  first_stands some =
      let n = well.0.0 in
      (λ _. well.4 some, λ none. absurd (omega arith))

  reads_pass : (xs : List ℕ) → FullSet (column_book ds rs start) xs → Reads rs start xs → is_some (walk_of (column_book ds rs start) xs) ≡ true
  reads_pass [] full r = let size = full.size in let n = well.0.0 in absurd (omega arith)
  reads_pass (x ∷ xs) full r =
      let i = reads_inside r in
      let some : 1 ≤ start = omega arith in
      rw (place_some start some) (reads_walks ds rs start linked 0 start (x ∷ xs) (full_rest (x ∷ xs) full) (first_stands some) r)

  pass_reads : (xs : List ℕ) → FullSet (column_book ds rs start) xs → is_some (walk_of (column_book ds rs start) xs) ≡ true → Reads rs start xs
  pass_reads xs full e =
      let w = walk_some (column_book ds rs start) 0 xs (place_of_link start) e in
      let some = (place_is start w.0 w.1).0 in
      walks_reads ds rs start linked 0 start xs (full_rest xs full) (first_stands some) (rw (place_some start some) at e)

  pub column_laws : BookLaws (column_book ds rs start) (Reads rs start)
  column_laws = record {
    some_feature = well.0.0;
    few_features = well.0.1;
    some_value = λ i h. (well.1 i h).0;
    few_values = λ i h. (well.1 i h).1;
    some_place = omega arith;
    few_places = let few = well.2 in omega arith;
    start_within = λ p e. let s = place_is start p e in rw (sym s.1) (well.4 s.0).0.1;
    step_within = stays_within;
    no_values = λ i h. get_or_past ds i 0 h;
    no_feature = λ f p v h. sym (step_none ds rs f p v (λ t. let k = (at_link ds rs linked p t.0).known.0 in omega arith));
    no_place = λ f p v h. sym (step_none ds rs f p v (λ t. omega arith));
    no_value = stops_value;
    decided = λ xs full. (pass_reads xs full, reads_pass xs full);
  }
