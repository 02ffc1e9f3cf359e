use Rattle.std.proofs.Common.{◌<◌, length, ◌∙◌, ap, arith}
use Rattle.std.specs.Prelude.{count_by}
use Rattle.std.proofs.lemmas.List.{take_all}
use Rattle.round_lookahead.specs.inside.Idles.{is_busy}
use Rattle.round_lookahead.proofs.IdleSteps.{one_busy_more, no_busy_more}
use Rattle.round_lookahead.proofs.workers.busy.busy_count.Goals as goal
use Rattle.round_lookahead.proofs.workers.busy.busy_count.Goals.{then-is_busy, else-is_busy}

pub loop-task-preserved : goal.loop-task-preserved
loop-task-preserved c =
    let end = c.args.end.nanos in
    let tasks = c.args.tasks.now in
    let i = c.loop-task.task-index in
    let below : i < length tasks = omega arith in
    let before = c.loop-task.invariant in
    elim c.if-is_busy.branch [
      | then-is_busy w ↦
          let more = one_busy_more end tasks i c.task-item.result c.is_busy.result below c.task-item.is c.is_busy.ensures w.if-is_busy.true in
          record { count = omega (arith, w.busy-is, more, before.count); within = omega (arith, w.busy-is, before.within) }
      | else-is_busy w ↦
          let same = no_busy_more end tasks i c.task-item.result c.is_busy.result below c.task-item.is c.is_busy.ensures w.if-is_busy.false in
          record { count = omega (arith, w.busy-is, same, before.count); within = omega (arith, w.busy-is, before.within) }
    ]

pub returns : goal.returns
returns c = c.loop-task.invariant.count ∙ ap (count_by (is_busy c.args.end.nanos)) (take_all c.loop-task.task-index c.args.tasks.now (omega arith))
