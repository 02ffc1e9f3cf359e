use Rattle.std.specs.Vec.Iter.{into_iter_items}
use Rattle.round_lookahead.proofs.BackSteps.{returned_more}
use Rattle.round_lookahead.proofs.world.backs.put_back.Goals as goal

pub loop-worked-preserved : goal.loop-worked-preserved
loop-worked-preserved c =
    returned_more c.args.count c.args.works.items (into_iter_items c.loop-worked.worked-iterator) (into_iter_items c.next.new.self) c.in-Some.worked c.loop-worked.returned c.put_worked.new.returned
    c.in-Some.ensures.steps.0 c.in_ok-put_worked.ensures c.loop-worked.invariant
