use Rattle.std.proofs.Common.{◌≡◌, false, arith}
use Rattle.run_plan.specs.Addresses.{is_open}
use Rattle.run_plan.proofs.AddressLemmas.{step_has_room}
use Rattle.run_plan.proofs.addresses.least_open.Goals as goal

pub loop-at-preserved : goal.loop-at-preserved
loop-at-preserved c =
    let closed : is_open c.args.given.now c.loop-at.at ≡ false = cc in
    let room = step_has_room c.args.given.now c.loop-at.at closed in
    record {
      within = omega arith;
      closed = λ n low high. grind (arith, c.loop-at.invariant.closed n low);
      room = omega (arith, room);
    }
