use Rattle.std.proofs.Common.{◌≡◌, ◌++◌, false, ap, sym, subst, ◌∙◌}
use Rattle.std.specs.Vec.Iter.{into_iter_items}
use Rattle.sim_base.specs.declared.event.Event.{Event}
use Rattle.event_order.specs.Events.{has_key, with_event}
use Rattle.host_link.specs.Parcels.{parcel_event}
use Rattle.round_parts.specs.Arrivals.{arrivals}
use Rattle.host_state.proofs.Queues.{queued_on, new_key_on}
use Rattle.round_lookahead.proofs.workers.running.join_parcels.Goals as goal

pub add-requires : goal.add-requires
add-requires c =
    let rest = into_iter_items c.next.new.self in
    let is : c.arrival.result ≡ parcel_event c.in-Some.parcel.value = c.arrival.ensures ∙ ap parcel_event c.into_inner.ensures in
    subst (λ (e : Event). has_key e.key c.loop-parcel.host.queue ≡ false) (sym is)
    (new_key_on c.loop-parcel.host.queue (arrivals (into_iter_items c.loop-parcel.parcel-iterator)) (arrivals rest) (parcel_event c.in-Some.parcel.value)
    (c.args.host.now.queue ++ arrivals c.args.parcels.items) (ap arrivals c.in-Some.ensures.steps.0) c.loop-parcel.invariant.moved c.requires)

pub loop-parcel-preserved : goal.loop-parcel-preserved
loop-parcel-preserved c =
    let rest = into_iter_items c.next.new.self in
    let is : c.arrival.result ≡ parcel_event c.in-Some.parcel.value = c.arrival.ensures ∙ ap parcel_event c.into_inner.ensures in
    record {
      moved = queued_on c.loop-parcel.host.queue c.add.new.self.queue (arrivals (into_iter_items c.loop-parcel.parcel-iterator)) (arrivals rest) (parcel_event c.in-Some.parcel.value)
          (c.args.host.now.queue ++ arrivals c.args.parcels.items)
          (c.in_ok-add.ensures.ok ∙ ap (λ (e : Event). with_event e c.loop-parcel.host.queue) is)
          (ap arrivals c.in-Some.ensures.steps.0) c.loop-parcel.invariant.moved;
      body = λ h s. c.add.ensures.body h (c.loop-parcel.invariant.body h s);
    }
