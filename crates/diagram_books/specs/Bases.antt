-- Where the bits of each feature begin.
use Rattle.std.specs.Prelude.{◌≡◌, ℕ, ◌≤◌, List, length, slice_index}
use Rattle.node.specs.Bits.{base_of}

-- the first bits of the features stand in a row, and behind them the number of all bits
abbrev pub Based : List ℕ → List ℕ → Type 0
Based ds bases = (f : ℕ) → f ≤ length ds → slice_index bases f ≡ base_of ds f
