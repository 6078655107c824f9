-- Numbers and names have no space and no byte 10. Assumes nothing.
use Rattle.std.proofs.Common.{◌≡◌, ℕ, ◌<◌, List, decimal, refl, arith}
use Rattle.std.proofs.ByRecursion.{All-from_get_or, All-weaker}
use Rattle.text.specs.Fields.{Lacks, Small, IsName, NameByte}
use Rattle.text.proofs.Numbers.{digit}

pub lacks_number : (b n : ℕ) → b < 48 → Small n → Lacks b (decimal n)
lacks_number b n lt h = All-from_get_or (λ x. x ≡ b → ⊥) (decimal n) 0 (λ i within e. omega (arith, digit (decimal n) n (h, refl) i within))

pub lacks_name : (b : ℕ) (bs : List ℕ) → b < 45 → IsName bs → Lacks b bs
lacks_name b bs lt h = All-weaker NameByte (λ x. x ≡ b → ⊥) (λ x p e. grind arith) bs h.bytes
