use Rattle.std.proofs.Common.{◌≡◌, ◌+◌, List, take, flat_map, subst, arith}
use Rattle.std.proofs.lemmas.List.{take_all}
use Rattle.event_order.specs.Events.{IsLeastDue}
use Rattle.round_lookahead.specs.declared.workers.host_task.HostTask.{HostTask}
use Rattle.round_lookahead.specs.Tasks.{waiting}
use Rattle.round_parts.proofs.DueSteps.{least_more, parts-more}
use Rattle.round_lookahead.proofs.IdleSteps.{first-is}
use Rattle.round_lookahead.proofs.world.due.least_due.Goals as goal

pub loop-task-preserved : goal.loop-task-preserved
loop-task-preserved c =
    least_more (flat_map waiting (take c.loop-task.task-index c.args.tasks.now)) (waiting c.task-item.result) (flat_map waiting (take (c.loop-task.task-index + 1) c.args.tasks.now))
    c.loop-task.least c.next_due.result c.earlier-least.result (parts-more waiting c.args.tasks.now c.loop-task.task-index c.task-item.result c.loop-task-test.true c.task-item.is)
    c.earlier-least.ensures c.loop-task.invariant c.next_due.ensures

pub returns : goal.returns
returns c =
    let all : take c.loop-task.task-index c.args.tasks.now ≡ c.args.tasks.now = take_all c.loop-task.task-index c.args.tasks.now (let past = c.loop-task-test.false in omega arith) in
    first-is (flat_map waiting c.args.tasks.now) c.loop-task.least (subst (λ (l : List HostTask). IsLeastDue (flat_map waiting l) c.loop-task.least) all c.loop-task.invariant)
