-- The least event of a host fires.
use Rattle.std.proofs.Common.{◌≡◌, ◌<◌, ◌≤◌, inl, List, ◌∷◌, ◌++◌, All, map, Some, refl, sym, ap, subst, ◌∙◌, IsPermutation}
use Rattle.sim_base.specs.declared.event.Event.{Event}
use Rattle.sim_base.specs.declared.event.Parcel.{Parcel}
use Rattle.event_order.specs.Events.{IsBefore, IsOrdered}
use Rattle.file_calls.specs.declared.task.Output.{Output}
use Rattle.host_state.specs.declared.host.Host.{Host}
use Rattle.host_link.specs.declared.line.Logged.{Logged}
use Rattle.host_link.specs.Net.{Net}
use Rattle.host_link.specs.declared.outbox.Outbox.{Outbox}
use Rattle.host_state.specs.Fire.{fire, wrote}
use Rattle.host_state.specs.HostRecord.{HostRecord}
use Rattle.host_state.specs.HostStands.{Stands, IsSameBody, Fires}
use Rattle.host_state.specs.Running.{Owns}
use Rattle.host_link.specs.Outbox.{IsEmpty, own_events, parcels_of, logged}
use Rattle.host_state.proofs.Queues.{first_taken}
use Rattle.host_state.proofs.Runs.{moved, owns_same}
use Rattle.world_order.specs.EventOrder.{take_least}
use Rattle.world_order.proofs.Homes.{some_is}
use Rattle.world_order.proofs.Members.{Each_from_All}
use Rattle.round_schedule.specs.inside.Turning.{MayTurn, Turned, Turns}
use Rattle.round_schedule.specs.declared.firing.HandedOut.{HandedOut}
use Rattle.round_schedule.specs.declared.member.Member.{Member}

module _ (net : Net) (old : Member) (mid : Host) (event : Event) (may : MayTurn net old) (taken : old.host.queue ≡ event ∷ mid.queue) (least : All (IsBefore event) mid.queue) where
  found : take_least old.host.queue ≡ Some (event, mid.queue)
  found = ap take_least taken ∙ first_taken event mid.queue least

  event_is : may.event ≡ event
  event_is = ap (λ (p : Event × List Event). p.0) (some_is (may.event, may.rest) (event, mid.queue) (sym may.taken ∙ found))

  pub turn_due : event.key.due.nanos < net.stop.nanos
  turn_due = subst (λ (e : Event). e.key.due.nanos < net.stop.nanos) event_is may.due

  module _ (new : Host) (before after : Outbox) (ordered : IsOrdered old.host.queue) (body : IsSameBody old.host mid) (empty : IsEmpty before)
      (fires : (h : HostRecord) → Stands mid h → h.link.time.nanos ≤ event.key.due.nanos → Fires net event h mid new before after) where
    module _ (h : HostRecord) (s : Stands old.host h) where
      owns : Owns net h.link (event ∷ mid.queue)
      owns = subst (Owns net h.link) taken (owns_same net old.host may.own.0 h old.host.queue may.own.1 s may.own.2)

      fired : Fires net event h mid new before after
      fired = fires h (body h s) (Each_from_All (λ (e : Event). h.link.time.nanos ≤ e.key.due.nanos) (event ∷ mid.queue) owns.clock event (inl refl))

      abbrev whole : List Event
      whole = mid.queue ++ own_events net h.link.number (fire net h event).made

      held : IsPermutation new.queue whole
      held =
          subst (λ (q : List Event). IsPermutation q whole) (sym fired.queue)
          (moved net may.stop h event mid.queue s.made s.lines owns (subst IsOrdered taken ordered) turn_due)

    module _ (m : Member) (out : HandedOut) (host : m.host ≡ new) (stage : m.stage ≡ old.stage) (places : m.places ≡ old.places)
        (outputs : m.outputs.items ≡ old.outputs.items ++ after.outputs.items) (parcels : out.parcels ≡ after.parcels) (lines : out.lines ≡ after.lines) where
      turned : (h : HostRecord) → Stands old.host h → Turned net h old m out
      turned h s = record {
        event = event;
        rest = mid.queue;
        taken = found;
        by = record {
          host = subst (λ (c : Host). Stands c (fire net h event).host) (sym host) (fired h s).host;
          queue = subst (λ (c : Host). IsPermutation c.queue (whole h s)) (sym host) (held h s);
          outputs = outputs ∙ ap (λ (l : List Output). old.outputs.items ++ l) ((fired h s).outputs ∙ ap (λ (l : List Output). l ++ wrote net h event) empty.outputs);
          parcels = ap (λ v. v.items) parcels ∙ (fired h s).parcels ∙ ap (λ (l : List Parcel). l ++ parcels_of net h.link.number (fire net h event).made) empty.parcels;
          lines = ap (λ v. v.items) lines ∙ (fired h s).lines ∙ ap (λ (l : List Logged). l ++ map (logged event.key) (fire net h event).lines) empty.lines;
        };
      }

      pub turns : Turns net old m out
      turns = record { stage = stage; places = places; turned = turned }
