-- What the program finds in a text: with tables for 24 features, 64 records, 384 prices and 64 calls.
use Rattle.std.specs.Prelude.{ℕ, ◌≤◌, ◌⊎◌, List, length, Result}
use Rattle.catalogue.specs.declared.entries.Contents.{Contents}
use Rattle.catalogue.specs.Content.{Tables}
use Rattle.catalogue.specs.Desk.{blank, TooLong}
use Rattle.catalogue.specs.Whole.{Judged}
use Rattle.fault.specs.declared.Fault.{Fault}

-- the reader's answer with these tables, where bs has at most 16,384 bytes
pub record Read (bs : List ℕ) (r : Result Contents Fault) : Type 0 where
  pub short : length bs ≤ 16384
  pub after : Tables
  pub judged : Judged bs blank after r

-- the one or the other
abbrev pub Surveyed : List ℕ → Result Contents Fault → Type 0
Surveyed bs r = Read bs r ⊎ TooLong bs r
