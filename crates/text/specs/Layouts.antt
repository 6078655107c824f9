-- A layout of texts, and the law of where a text that is not of the layout is refused.
-- A layout has contents, and each content has its lines. Which line is refused, and by which question, is said by the
-- contents alone: a reader passes a line as long as some content that fits goes on with it.
use Rattle.std.specs.Prelude.{◌≡◌, ℕ, ◌+◌, List, [], ◌∷◌, ◌++◌, length}
use Rattle.fault.specs.declared.Fault.{Fault}
use Rattle.fault.specs.Told.{told, file_fault}
use Rattle.text.specs.Fields.{Lacks}
use Rattle.text.specs.Lines.{ended, text_of}

pub record Layout : Type 1 where
  pub Content : Type 0
  -- the contents that the layout allows, and those of them that the lent tables have room for
  pub Good : Content → Type 0
  pub Fits : Content → Type 0
  -- the lines that say a content
  pub lines : Content → List (List ℕ)

-- c is a content that goes on with the line l after the lines `passed`
pub record GoesOn (L : Layout) (passed : List (List ℕ)) (l : List ℕ) (c : L.Content) : Type 0 where
  pub good : L.Good c
  pub more : List (List ℕ)
  pub lines : L.lines c ≡ passed ++ l ∷ more

-- a text whose lines `passed` are good, and which has the bytes `left` from there on, is answered no by the question of
-- this number: 16, is there a line, ended by byte 10? 15, is it of its form? 17, does the count fit its table?
pub data No (L : Layout) (passed : List (List ℕ)) (left : List ℕ) : ℕ → Type 0 where
  absent : Lacks 10 left → No L passed left 16
  ill_formed : (l more : List ℕ) → Lacks 10 l → left ≡ ended l ++ more → ((c : L.Content) → GoesOn L passed l c → ⊥) → No L passed left 15
  too_small : (l more : List ℕ) → Lacks 10 l → left ≡ ended l ++ more → (c : L.Content) → GoesOn L passed l c → ((d : L.Content) → L.Fits d → GoesOn L passed l d → ⊥) → No L passed left 17

-- bs, which stands after k lines, is refused with f: some content that fits begins with the lines that passed, and wants
-- another line; the fault is that of the first question that says no there
pub record Refused (L : Layout) (k : ℕ) (bs : List ℕ) (f : Fault) : Type 0 where
  pub content : L.Content
  pub fits : L.Fits content
  pub passed : List (List ℕ)
  pub wanted : List ℕ
  pub begins : GoesOn L passed wanted content
  pub left : List ℕ
  pub split : bs ≡ text_of passed ++ left
  pub number : ℕ
  pub no : No L passed left number
  pub is : told f ≡ file_fault number (k + (length passed + 1))

-- bs goes on after the last line of a content that fits: that is 16 too, at the first line too many
pub record Surplus (L : Layout) (bs : List ℕ) (f : Fault) : Type 0 where
  pub content : L.Content
  pub good : L.Good content
  pub fits : L.Fits content
  pub left : List ℕ
  pub some : left ≡ [] → ⊥
  pub split : bs ≡ text_of (L.lines content) ++ left
  pub is : told f ≡ file_fault 16 (length (L.lines content) + 1)
