use Rattle.std.proofs.Common.{◌≡◌, ℕ, ◌≤◌, length, get_or}
use Rattle.node.specs.Bits.{base_of}
use Rattle.diagram_books.proofs.bits.widths.bit_bases.Given as goal

-- the bases up to this feature's stand in their places
abbrev pub invariant-loop-i : goal.invariant-loop-i
invariant-loop-i l = (l.base ≡ base_of l.counts l.i) × ((f : ℕ) → f ≤ l.i → get_or l.bases f 0 ≡ base_of l.counts f) × (length l.bases ≡ 25)
