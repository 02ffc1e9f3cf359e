use Rattle.std.proofs.Common.{◌≡◌, arith}
use Rattle.list_weights.specs.Weights.{weigh}
use Rattle.steal_workers.specs.inside.Backs.{own_weight}
use Rattle.steal_workers.proofs.GatherSteps.{no_owner}
use Rattle.steal_workers.proofs.gathering.owner_in.Goals as goal

pub unreachable-requires : goal.unreachable-requires
unreachable-requires g c =
    let none : weigh own_weight c.args.column.now ≡ 0 = no_owner c.args.column.now (λ k e w. c.loop-place.invariant k e (let f = c.loop-place-test.false in omega arith)) in
    let one = c.requires in
    omega arith
