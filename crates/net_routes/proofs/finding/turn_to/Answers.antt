use Rattle.std.proofs.Common.{arith}
use Rattle.net_routes.proofs.FoundLemmas.{turned_more}
use Rattle.net_routes.proofs.finding.turn_to.Goals as goal

pub loop-place-preserved : goal.loop-place-preserved
loop-place-preserved c =
    let turned = c.in_ok-turn_one.ensures in (
      turned_more c.loop-place.searches.items c.turn_one.new.searches.items c.args.stops.now c.loop-place.place c.loop-place.invariant.0 turned c.loop-place-test.true,
      omega (arith, turned.within),
      omega (arith, turned.most, c.loop-place.invariant.2, c.loop-place-test.true),
    )
