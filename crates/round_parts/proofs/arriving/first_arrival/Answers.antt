use Rattle.std.proofs.Common.{◌+◌, ◌∷◌, [], Some, take, sym, ap}
use Rattle.sim_base.specs.declared.event.Parcel.{Parcel}
use Rattle.host_link.specs.Parcels.{parcel_event}
use Rattle.round_parts.specs.Arrivals.{Boxed, arrivals}
use Rattle.round_parts.proofs.DueSteps.{least_more, least-one, events_more}
use Rattle.round_parts.proofs.arriving.first_arrival.Goals as goal

pub loop-parcel-preserved : goal.loop-parcel-preserved
loop-parcel-preserved c =
    let i = c.loop-parcel.parcel-index in
    let box : Boxed = c.parcel-item.result in
    least_more (arrivals (take i c.args.parcels.now)) (parcel_event box.value ∷ []) (arrivals (take (i + 1) c.args.parcels.now))
    c.loop-parcel.least (Some c.deref.result.now.key.due) c.earlier-least.result
    (events_more (λ (b : Boxed). parcel_event b.value) c.args.parcels.now i box c.loop-parcel-test.true c.parcel-item.is)
    c.earlier-least.ensures c.loop-parcel.invariant
    (least-one (parcel_event box.value) c.deref.result.now.key.due (ap (λ (p : Parcel). p.key.due) (sym c.deref.ensures)))
