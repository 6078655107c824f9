-- Links that lead to no record.
use Rattle.std.proofs.Common.{◌≡◌, ℕ, ◌<◌, refl, arith}
use Rattle.diagram_books.specs.declared.links.Link.{Link}
use Rattle.diagram_books.specs.declared.links.Link.TheVariants.{False, True, Record}
use Rattle.diagram_books.specs.Links.{number_of}

pub leaf : (l : Link) (n : ℕ) → number_of l ≡ n → ((r : ℕ) → l ≡ Record r → ⊥) → n < 2
leaf False n e never = omega (arith, e)
leaf True n e never = omega (arith, e)
leaf (Record r) n e never = absurd (never r refl)
