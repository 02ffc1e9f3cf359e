use Rattle.std.proofs.Common.{◌+◌, ◌∷◌, [], Some, map, take, refl}
use Rattle.sim_base.specs.declared.event.Parcel.{Parcel}
use Rattle.host_link.specs.Parcels.{parcel_event}
use Rattle.round_parts.proofs.DueSteps.{least_more, least-one, events_more}
use Rattle.round_parts.proofs.arriving.first_spilled.Goals as goal

pub loop-parcel-preserved : goal.loop-parcel-preserved
loop-parcel-preserved c =
    let i = c.loop-parcel.parcel-index in
    let p : Parcel = c.parcel-item.result in
    least_more (map parcel_event (take i c.args.parcels.now)) (parcel_event p ∷ []) (map parcel_event (take (i + 1) c.args.parcels.now)) c.loop-parcel.least (Some p.key.due) c.earlier-least.result
    (events_more parcel_event c.args.parcels.now i p c.loop-parcel-test.true c.parcel-item.is) c.earlier-least.ensures c.loop-parcel.invariant (least-one (parcel_event p) p.key.due refl)
