use Rattle.std.proofs.Common.{◌≡◌, ◌∙◌, ap, length, arith, get_or, List}
use Rattle.round_lookahead.specs.declared.workers.host_task.HostTask.{HostTask}
use Rattle.round_lookahead.proofs.StreamSteps.{kept_more, kept_all}
use Rattle.round_lookahead.proofs.world.world_state.World.kept_streams.Goals as goal

pub loop-task-preserved : goal.loop-task-preserved
loop-task-preserved c = λ w at.
    (let tasks : c.as_slice-task-items.result.now ≡ c.args.self.now.tasks.items = c.as_slice-task-items.ensures.value in
    kept_more c.args.self.now w at c.loop-task.task-index c.task-item.result c.loop-task.kept.items c.push.new.self.items c.in_ok-kept_by.field-0
    (let t = c.loop-task-test.true in omega (arith, ap length tasks)) (c.task-item.is ∙ ap (λ (ts : List HostTask). get_or ts c.loop-task.task-index c.task-item.result) tasks)
    c.in_ok-push.ensures.items c.in_ok-kept_by.ensures (c.loop-task.invariant w at))

pub returns : goal.returns
returns c = λ w at.
    kept_all c.args.self.now w at c.loop-task.task-index c.loop-task.kept.items
    (let t = c.loop-task-test.false in let tasks = c.as_slice-task-items.ensures.value in omega (arith, ap length tasks)) (c.loop-task.invariant w at)
