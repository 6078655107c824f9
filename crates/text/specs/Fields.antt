-- The fields of a line.
use Rattle.std.specs.Prelude.{◌≡◌, ℕ, ◌^◌, ◌<◌, ◌≤◌, cond, ◌⊎◌, List, [], ◌∷◌, ◌++◌, length, decimal, ◌==◌, ◌≢◌}
use Rattle.std.specs.List.{AllByRecursion}

-- the numbers that a field can write
abbrev pub Small : ℕ → Type 0
Small n = n < 2 ^ 32

-- bs is how n is written: its decimal digits, of which the first is 0 only in 0 itself
abbrev pub IsNumber : ℕ → List ℕ → Type 0
IsNumber n bs = Small n × (bs ≡ decimal n)

-- a to z, 0 to 9, or a hyphen
abbrev pub NameByte : ℕ → Type 0
NameByte b = ((97 ≤ b) × (b ≤ 122)) ⊎ (((48 ≤ b) × (b ≤ 57)) ⊎ (b ≡ 45))

pub record IsName (bs : List ℕ) : Type 0 where
  pub some : 0 < length bs
  pub short : length bs ≤ 20
  pub bytes : AllByRecursion NameByte bs

-- no byte of bs is b
abbrev pub Lacks : ℕ → List ℕ → Type 0
Lacks b bs = AllByRecursion (λ x. x ≢ b) bs

-- each field with a space in front
abbrev pub behind : List (List ℕ) → List ℕ
behind [] = []
behind (f ∷ fs) = 32 ∷ (f ++ behind fs)

-- fields one space apart
abbrev pub spaced : List (List ℕ) → List ℕ
spaced [] = []
spaced (f ∷ fs) = f ++ behind fs

abbrev pub longer : ℕ → List (List ℕ) → List (List ℕ)
longer b [] = (b ∷ []) ∷ []
longer b (f ∷ fs) = (b ∷ f) ∷ fs

-- the fields of a line: what stands before, between and after its spaces
abbrev pub fields : List ℕ → List (List ℕ)
fields [] = [] ∷ []
fields (b ∷ bs) = cond (b == 32) ([] ∷ fields bs) (longer b (fields bs))
