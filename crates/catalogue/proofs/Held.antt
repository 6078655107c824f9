-- What stands in the tables of a catalogue that was read. Assumes nothing.
use Rattle.std.proofs.Common.{◌≡◌, ℕ, ◌+◌, List, [], ◌∷◌, map, length, take, drop, sym, refl, ap, ◌∙◌}
use lib.Seq.{take-append_seam}
use Rattle.std.proofs.lemmas.List.{take-map}
use Rattle.text.specs.Lines.{ended}
use Rattle.catalogue.specs.declared.entries.Feature.{Feature}
use Rattle.catalogue.specs.Forms.{line_of}
use Rattle.catalogue.specs.Sections.{placed}
use Rattle.catalogue.specs.Content.{Content, Named, Tables, feature_form}
use Rattle.catalogue.specs.Whole.{feature_entries, full}
use Rattle.catalogue.proofs.Filled.{placed-length}
use Rattle.catalogue.specs.WordLaws.{feature_lawful}

abbrev pub valued : List Feature → List ℕ
valued fs = map (λ f. f.values) fs

placed_valued : (at : ℕ) (xs : List Named) → valued (placed feature_form at xs) ≡ map (λ x. x.values) xs
placed_valued at [] = refl
placed_valued at (x ∷ xs) = ap (λ l. x.values ∷ l) (placed_valued (at + length (ended (line_of feature_form x))) xs)

-- the value counts of the features that were read
pub counts_held : (c : Content) (t : Tables) → take (length c.features) (valued (full c t).features) ≡ map (λ x. x.values) c.features
counts_held c t =
    take-map (λ f. f.values) (length c.features) (full c t).features
    ∙ ap valued
    (ap (λ (n : ℕ). take n (full c t).features) (sym (placed-length feature_form feature_lawful _ c.features))
    ∙ take-append_seam (feature_entries c) (drop (length (feature_entries c)) t.features))
    ∙ placed_valued _ c.features
