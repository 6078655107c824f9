-- Links as the code takes them apart.
use Rattle.std.specs.Prelude.{ℕ, ◌+◌}
use Rattle.diagram_books.specs.declared.links.Link.{Link}
use Rattle.diagram_books.specs.declared.links.Link.TheVariants.{False, True, Record}

-- the number that a link is written as
abbrev pub number_of : Link → ℕ
number_of False = 0
number_of True = 1
number_of (Record r) = r + 2
