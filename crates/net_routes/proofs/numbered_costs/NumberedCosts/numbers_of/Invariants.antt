use Rattle.std.proofs.Common.{take}
use Rattle.net_routes.specs.inside.Numbers.{KeepNumbers, GetNumbers}
use Rattle.net_routes.proofs.NumberLemmas.{AreNumbersOf}
use Rattle.net_routes.proofs.numbered_costs.NumberedCosts.numbers_of.Given as goal

abbrev pub invariant-loop-place : goal.invariant-loop-place
invariant-loop-place l = record {
  numbers : AreNumbersOf l.self l.numbers.items (take l.place l.row);
  kept : KeepNumbers l.fn.self l.self;
  added : GetNumbers l.row l.fn.self l.self;
}
