-- What a program finds in the text that it is given: with tables for 24 features, 64 records, 384 prices and 64 calls.
use Rattle.std.specs.Prelude.{◌≡◌, ℕ, ◌<◌, ◌≤◌, ◌⊎◌, List, length, Some, Result}
use Rattle.fault.specs.declared.Fault.{Fault}
use Rattle.fault.specs.Told.{file_fault}
use Rattle.fault.specs.Questions.{refusal}
use Rattle.catalogue.specs.declared.entries.Contents.{Contents}
use Rattle.catalogue.specs.Content.{Tables, blank_tables}
use Rattle.catalogue.specs.Whole.{Judged}

-- the program's tables, before anything is read
abbrev pub blank : Tables
blank = blank_tables 24 64 384 64

-- a text of over 16,384 bytes is refused by 17 at line 0
pub record TooLong {A : Type 0} (bs : List ℕ) (r : Result A Fault) : Type 0 where
  pub long : 16384 < length bs
  pub refused : refusal r ≡ Some (file_fault 17 0)

-- the reader's answer to bs, where it is not too long, with tables that went from t to u
pub record Within (bs : List ℕ) (t u : Tables) (r : Result Contents Fault) : Type 0 where
  pub short : length bs ≤ 16384
  pub judged : Judged bs t u r

-- a text that is too long is not read
pub record Unread (bs : List ℕ) (t u : Tables) (r : Result Contents Fault) : Type 0 where
  pub too_long : TooLong bs r
  pub same : u ≡ t

abbrev pub Taken : List ℕ → Tables → Tables → Result Contents Fault → Type 0
Taken bs t u r = Within bs t u r ⊎ Unread bs t u r
