use Rattle.std.specs.Vec.Iter.{into_iter_items}
use Rattle.round_lookahead.proofs.BackSteps.{IsReturning}
use Rattle.round_lookahead.proofs.world.backs.put_back.Given as goal

abbrev pub invariant-loop-worked : goal.invariant-loop-worked
invariant-loop-worked l = IsReturning l.count l.fn.works.items (into_iter_items l.worked-iterator) l.returned
