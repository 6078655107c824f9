use Rattle.std.proofs.Common.{◌≡◌, drop, Some}
use Rattle.book.specs.Books.{walk_of, walk_from}
use Rattle.book.proofs.walk.Given as goal

-- the walk from here over what is left is the whole walk
abbrev pub invariant-loop-feature : goal.invariant-loop-feature
invariant-loop-feature g l =
    let b = g.B.RuleBook.book l.book in
    walk_from b l.feature (Some l.place) (drop l.feature l.set) ≡ walk_of b l.set
