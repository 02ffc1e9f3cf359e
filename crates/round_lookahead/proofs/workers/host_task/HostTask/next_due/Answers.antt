use Rattle.std.proofs.Common.{List, refl, subst}
use Rattle.event_order.specs.Events.{IsLeastDue}
use Rattle.round_parts.specs.Arrivals.{Boxed, arrivals}
use Rattle.round_lookahead.specs.Tasks.{waiting}
use Rattle.round_parts.proofs.DueSteps.{least_more}
use Rattle.round_lookahead.proofs.IdleSteps.{least_of}
use Rattle.round_lookahead.proofs.workers.host_task.HostTask.next_due.Goals as goal

pub returns : goal.returns
returns c =
    let t = c.args.self.now in
    least_more t.host.value.queue (arrivals t.parcels.items) (waiting t) t.due c.first_arrival.result c.earlier.result refl c.earlier.ensures
    (least_of t.host.value.queue t.due t.told) (subst (λ (bs : List Boxed). IsLeastDue (arrivals bs) c.first_arrival.result) c.as_slice.ensures.value c.first_arrival.ensures)
