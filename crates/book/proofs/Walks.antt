-- The steps of a walk.
use Rattle.std.proofs.Common.{◌≡◌, ℕ, ◌+◌, ◌<◌, List, length, get_or, drop, Some}
use Rattle.std.proofs.lemmas.List.{at_drop_more}
use Rattle.book.specs.Books.{Book, walk_from}

-- a walk over what is left takes one step, and is then a walk over what is left behind it
pub walk_more : (b : Book) (xs : List ℕ) (f p : ℕ) → f < length xs → walk_from b f (Some p) (drop f xs) ≡ walk_from b (f + 1) (b.step f p (get_or xs f 0)) (drop (f + 1) xs)
walk_more b xs f p within = at_drop_more (walk_from b f (Some p)) xs f 0 within
