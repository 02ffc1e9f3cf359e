use Rattle.std.proofs.Common.{◌≡◌, ◌-◌, length, refl, arith}
use Rattle.std.proofs.lemmas.Result.{IfOk-weaker}
use Rattle.round_lookahead.specs.inside.Alone.{task_ids}
use Rattle.round_lookahead.proofs.PlaceSteps.{alone_by, count_took, due_is, first_took, in_place_is}
use Rattle.round_lookahead.proofs.world.settling_in_place.round_alone.Goals as goal

pub returns-clause-round : goal.returns-clause-round
returns-clause-round g c =
    let all : c.len-hosts.result ≡ length c.args.tasks.now.items = (let e = c.len-hosts.ensures in omega (arith, c.args.tasks.now.ok.0)) in
    let run = alone_by c.args.net.now c.args.end.nanos c.args.tasks.now c.as_mut_slice.result.now c.as_mut_slice.ensures.value c.run_in_place.new.tasks c.in_ok-alone.alone c.in_ok-alone.ensures _ refl (c.args.workers - 1) in
    IfOk-weaker c.settle_in_place.result _ _
    (λ ran so. in_place_is c.args.net.now c.args.end.nanos c.args.tasks.now.items _ c.in_ok-alone.alone _ run c.requires.tasks c.requires.few c.settle_in_place.new.tasks ran _ so
    (first_took c.args.net.now c.args.tasks.now.items c.requires.tasks c.args.workers c.len-hosts.result all) c.args.workers (count_took (task_ids c.args.tasks.now.items) c.args.workers c.requires.workers))
    c.settle_in_place.ensures

pub returns-clause-due : goal.returns-clause-due
returns-clause-due g c =
    let all : c.len-hosts.result ≡ length c.args.tasks.now.items = (let e = c.len-hosts.ensures in omega (arith, c.args.tasks.now.ok.0)) in
    let run = alone_by c.args.net.now c.args.end.nanos c.args.tasks.now c.as_mut_slice.result.now c.as_mut_slice.ensures.value c.run_in_place.new.tasks c.in_ok-alone.alone c.in_ok-alone.ensures _ refl (c.args.workers - 1) in
    IfOk-weaker c.settle_in_place.result _ _
    (λ ran so. due_is c.args.net.now c.args.end.nanos c.args.tasks.now.items _ c.in_ok-alone.alone _ run c.requires.tasks c.requires.few c.settle_in_place.new.tasks ran _ so
    (first_took c.args.net.now c.args.tasks.now.items c.requires.tasks c.args.workers c.len-hosts.result all))
    c.settle_in_place.ensures
