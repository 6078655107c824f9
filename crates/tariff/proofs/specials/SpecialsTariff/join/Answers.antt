use Rattle.tariff.proofs.SpecialSums.{sum_is_parts}
use Rattle.tariff.proofs.specials.SpecialsTariff.join.Goals as goal

pub returns-in-Some : goal.returns-in-Some
returns-in-Some c =
    rw (c.in-Parts-Parts.is-0, c.in-Parts-Parts.is-1)
    (sum_is_parts c.in-Parts-Parts.x c.in-Parts-Parts.y _ c.in-Some.ensures.0 c.in-Some.ensures.1 c.saturating_add.ensures)
