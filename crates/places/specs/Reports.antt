-- What a number of places prints.
use Rattle.std.specs.Prelude.{ℕ, List, ◌++◌, codes, decimal}
use Rattle.places.specs.declared.report.PlaceCount.{PlaceCount}

abbrev pub count_text : PlaceCount → List ℕ
count_text c = codes "places at most " ++ decimal c.0
