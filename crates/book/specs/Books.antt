-- What a rule book is: its answers, the walk of a set, and the laws that tie the walk to what is permitted.
use Rattle.std.specs.Prelude.{◌≡◌, ℕ, ◌+◌, ◌<◌, ◌≤◌, List, [], ◌∷◌, length, is_some, Some, None, Decides, Option, slice_index}

-- the answers of a rule book
pub record Book : Type 0 where
  pub features : ℕ
  -- how many values a feature has
  pub values : ℕ → ℕ
  pub places : ℕ
  pub start : Option ℕ
  -- the next place, from a feature, a place and a value
  pub step : ℕ → ℕ → ℕ → Option ℕ

-- one value for every feature
pub record FullSet (b : Book) (xs : List ℕ) : Type 0 where
  pub size : length xs ≡ b.features
  pub each : (i : ℕ) → i < b.features → slice_index xs i < b.values i

-- the walk from a place, if there is one, by the values of the features from f on: where it ends, or none once it met none
abbrev pub walk_from : Book → ℕ → Option ℕ → List ℕ → Option ℕ
walk_from b f None xs = None
walk_from b f (Some p) [] = Some p
walk_from b f (Some p) (x ∷ xs) = walk_from b (f + 1) (b.step f p x) xs

-- the walk of a set from the start
abbrev pub walk_of : Book → List ℕ → Option ℕ
walk_of b xs = walk_from b 0 b.start xs

-- what every book shows, where permits is its own meaning
pub record BookLaws (b : Book) (permits : List ℕ → Type 0) : Type 0 where
  pub some_feature : 1 ≤ b.features
  pub few_features : b.features ≤ 24
  pub some_value : (i : ℕ) → i < b.features → 1 ≤ b.values i
  pub few_values : (i : ℕ) → i < b.features → b.values i ≤ 16
  pub some_place : 1 ≤ b.places
  pub few_places : b.places ≤ 2048
  -- places answered are places
  pub start_within : (p : ℕ) → b.start ≡ Some p → p < b.places
  pub step_within : (f p v q : ℕ) → b.step f p v ≡ Some q → q < b.places
  -- a feature, place or value out of range gives none
  pub no_values : (i : ℕ) → b.features ≤ i → b.values i ≡ 0
  pub no_feature : (f p v : ℕ) → b.features ≤ f → b.step f p v ≡ None
  pub no_place : (f p v : ℕ) → b.places ≤ p → b.step f p v ≡ None
  pub no_value : (f p v : ℕ) → b.values f ≤ v → b.step f p v ≡ None
  -- a full set is permitted exactly when its walk never meets none
  pub decided : (xs : List ℕ) → FullSet b xs → Decides (is_some (walk_of b xs)) (permits xs)
