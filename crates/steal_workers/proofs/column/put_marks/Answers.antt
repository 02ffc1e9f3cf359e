use Rattle.std.proofs.Common.{sym, ap, ◌∙◌}
use Rattle.crossbeam_deque.specs.Handles.{worker_view}
use Rattle.steal_workers.specs.declared.hand.Hand.{Hand}
use Rattle.steal_workers.specs.inside.Items.{marks}
use Rattle.steal_workers.proofs.ColumnSteps.{marks_closed}
use Rattle.steal_workers.proofs.column.put_marks.Goals as goal

pub put-requires-clause-share : goal.put-requires-clause-share
put-requires-clause-share g c =
    let view = c.loop.invariant.view in
    ap (λ (v : Hand g.row.T.Denot). v.share) view
    ∙ sym (ap (λ (v : Hand g.row.T.Denot). marks v.dealt) view ∙ marks_closed (worker_view c.args.deque.now).dealt c.loop.counter c.requires.unmarked)
