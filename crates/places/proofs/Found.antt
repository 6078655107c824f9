-- What stands in the tables of a catalogue that was read.
use Rattle.std.proofs.Common.{◌≡◌, ℕ, ◌≤◌, List, length, drop, Ok, Option, refl, ⊎_elim, arith}
use lib.Seq.{take-append_seam}
use Rattle.fault.specs.Told.{Told}
use Rattle.catalogue.specs.declared.entries.Contents.{Contents}
use Rattle.diagram.specs.declared.BitNode.{BitNode}
use Rattle.diagram.specs.declared.ColumnNode.{ColumnNode}
use Rattle.catalogue.specs.declared.entries.Kind.{Kind}
use Rattle.catalogue.specs.declared.entries.Kind.TheVariants.{Bit, Column}
use Rattle.catalogue.specs.Content.{Content, RecordsFit, RecordsOf, Tables}
use Rattle.catalogue.specs.Whole.{Accepted, bits_over, columns_over, contents, full, record_count}
use Rattle.catalogue.proofs.Held.{counts_held}
use Rattle.catalogue.specs.Desk.{Taken, Within, Unread, blank}
use Rattle.places.specs.Surveys.{AsksContent, AsksTables, first_records}

-- the records that were read
pub records_found : (k : Kind) (rs : RecordsOf k) (bs : List BitNode) (cs : List ColumnNode) → first_records k (record_count k rs) (bits_over k rs bs) (columns_over k rs cs) ≡ rs
records_found Bit rs bs cs = take-append_seam rs (drop (length rs) bs)
records_found Column rs bs cs = take-append_seam rs (drop (length rs) cs)

-- the tables are asked what the catalogue is asked
pub asked_found : (c : Content) (t : Tables) (r : Option Told) → AsksTables (contents c) (full c t).features (full c t).bits (full c t).columns r → AsksContent c r
asked_found c t r h = rw (counts_held c t, records_found c.kind c.records t.bits t.columns) at h

-- a catalogue that fits has few records of either kind
pub records_few : (k : Kind) (rs : RecordsOf k) (t : Tables) (m : ℕ) → length t.bits ≡ m → length t.columns ≡ m → RecordsFit k rs t → record_count k rs ≤ m
records_few Bit rs t m b c fits = omega (arith, fits)
records_few Column rs t m b c fits = omega (arith, fits)

-- a text that was taken is not too long
pub taken_short : (bs : List ℕ) (t u : Tables) (k : Contents) → Taken bs t u (Ok k) → Within bs t u (Ok k)
taken_short bs t u k = ⊎_elim (λ w. w) (λ (w : Unread bs t u (Ok k)). absurd (let refused = w.too_long.refused in cc))

-- what an accepted text leaves in the program's tables
module _ (bs : List ℕ) (after : Tables) (k : Contents) (a : Accepted bs blank after k) where
  pub records_at_most : k.records ≤ 64
  records_at_most = rw a.result (records_few a.content.kind a.content.records blank 64 refl refl a.fits.records)

  pub asked_of : (r : Option Told) → AsksTables k after.features after.bits after.columns r → AsksContent a.content r
  asked_of r h = asked_found a.content blank r (rw (a.tables, a.result) at h)
