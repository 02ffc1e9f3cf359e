use Rattle.std.proofs.Common.{◌≡◌, ◌<◌, ◌≤◌, ◌+◌, ℕ, suc, length, get_or, slice_set, subst, arith}
use Rattle.round_lookahead.specs.inside.Alone.{AreRunInPlace}
use Rattle.round_lookahead.proofs.AloneSteps.{none_placed, kept_more, passed_more, may_run_here}
use Rattle.round_lookahead.proofs.PlaceSteps.{get_or_at}
use Rattle.round_lookahead.specs.declared.workers.host_task.HostTask.{HostTask}
use Rattle.round_lookahead.proofs.world.in_place.run_in_place.Goals as goal
use Rattle.round_lookahead.proofs.world.in_place.run_in_place.Goals.{then-is_busy+in_ok-out+in_ok-keep, else-is_busy+in_ok-pass}

pub loop-task-init : goal.loop-task-init
loop-task-init g c =
    let alone = c.new-alone.ensures in
    record {
      few = omega arith;
      run = none_placed c.args.net.now c.args.end.nanos c.args.worker c.args.tasks.now c.new-alone.result alone.outputs alone.lines alone.spill alone.due;
    }

pub run_here-requires-clause-task : goal.run_here-requires-clause-task
run_here-requires-clause-task g c =
    let r = c.loop-task.invariant.run in
    let within : c.loop-task.task-index < length c.loop-task.tasks = omega (arith, c.loop-task-test.true, r.all) in
    may_run_here c.args.net.now c.args.end.nanos c.args.worker c.args.tasks.now c.loop-task.tasks c.loop-task.task-index c.loop-task.alone
    (get_or c.loop-task.tasks c.loop-task.task-index c.task-item.result) c.requires.tasks (get_or_at c.loop-task.tasks c.loop-task.task-index c.task-item.result within) r

pub loop-task-preserved : goal.loop-task-preserved
loop-task-preserved g c =
    let i : ℕ = c.loop-task.task-index in
    let r = c.loop-task.invariant.run in
    let within : i < length c.loop-task.tasks = omega (arith, c.loop-task-test.true, r.all) in
    let next : suc i ≡ i + 1 = omega arith in
    let t : HostTask = get_or c.loop-task.tasks i c.task-item.result in
    let here = get_or_at c.loop-task.tasks i c.task-item.result within in
    let few : i + 1 ≤ length c.args.tasks.now = omega (arith, c.loop-task-test.true) in
    elim c.if-is_busy.branch [
      | then-is_busy+in_ok-out+in_ok-keep w ↦
          let kept = w.in_ok-keep.ensures in
          let ran = w.in_ok-out.ensures in
          rw (w.tasks-is, w.alone-is) (record {
            few = few;
            run = subst (λ (n : ℕ). AreRunInPlace c.args.net.now c.args.end.nanos c.args.worker c.args.tasks.now n (slice_set c.loop-task.tasks i w.run_here.new.self) w.keep.new.self) next
                (kept_more c.args.net.now c.args.end.nanos c.args.worker c.args.tasks.now c.loop-task.tasks i c.loop-task.alone t c.requires.tasks here r w.keep.new.self w.run_here.new.self w.in_ok-out.out
                ran.id ran.emptied ran.run kept ran.to);
          })
      | else-is_busy+in_ok-pass w ↦
          let passed = w.in_ok-pass.ensures in
          let idle = c.is_busy.ensures.0 w.if-is_busy.false in
          rw (w.tasks-is, w.alone-is) (record {
            few = few;
            run = subst (λ (n : ℕ). AreRunInPlace c.args.net.now c.args.end.nanos c.args.worker c.args.tasks.now n (slice_set c.loop-task.tasks i t) w.pass.new.self) next
                (passed_more c.args.net.now c.args.end.nanos c.args.worker c.args.tasks.now c.loop-task.tasks i c.loop-task.alone t c.requires.tasks here r w.pass.new.self idle passed);
          })
    ]

pub returns : goal.returns
returns g c =
    let all : c.loop-task.task-index ≡ length c.args.tasks.now = omega (arith, c.loop-task-test.false, c.loop-task.invariant.few) in
    subst (λ (n : ℕ). AreRunInPlace c.args.net.now c.args.end.nanos c.args.worker c.args.tasks.now n c.loop-task.tasks c.loop-task.alone) all c.loop-task.invariant.run
