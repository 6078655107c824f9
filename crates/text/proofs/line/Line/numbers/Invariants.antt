use Rattle.std.proofs.Common.{◌≡◌, ◌++◌, map, length, take, decimal}
use Rattle.std.specs.List.{AllByRecursion}
use Rattle.text.specs.Fields.{Small}
use Rattle.text.specs.Tokens.{left}
use Rattle.text.proofs.line.Line.numbers.Given as goal

abbrev pub invariant-loop-n : goal.invariant-loop-n
invariant-loop-n g l = record {
  long : length l.n-items ≡ g.row.N;
  small : AllByRecursion Small (take l.n-index l.n-items);
  fields : left l.initial.self ≡ map decimal (take l.n-index l.n-items) ++ left l.self;
  number : l.self.number ≡ l.initial.self.number;
}
