-- What firings and the beginning leave at a host.
use Rattle.std.proofs.Common.{◌≡◌, ℕ, ◌≤◌, List, [], map, ◌++◌, refl, ap, ◌∙◌}
use Rattle.sim_base.specs.declared.event.Event.{Event}
use Rattle.sim_base.specs.declared.address.Ip.{Ip}
use Rattle.file_calls.specs.declared.task.Output.{Output}
use Rattle.host_calls.specs.Starting.{no_parts}
use Rattle.host_link.specs.declared.outbox.Made.{Made}
use Rattle.host_state.specs.declared.host.Host.{Host}
use Rattle.host_link.specs.declared.line.Line.{Line}
use Rattle.host_link.specs.Net.{Net}
use Rattle.host_link.specs.declared.outbox.Outbox.{Outbox}
use Rattle.host_state.specs.Fire.{fire, wrote}
use Rattle.host_state.specs.HostRecord.{HostRecord}
use Rattle.host_state.specs.HostStands.{Stands, Fires}
use Rattle.host_link.specs.Handing.{HandsAllOn, with_events}
use Rattle.host_link.specs.Link.{LinkState}
use Rattle.host_link.specs.Outbox.{own_events, parcels_of, logged}
use Rattle.host_state.specs.StandsFor.{BodyStands, HandsOut}

pub fired : (net : Net) (e : Event) (c d : Host) (made : Made) (before after : Outbox) (number : ℕ) → number ≡ c.body.link.number
    → ((h : HostRecord) → BodyStands c.body h → h.link.time.nanos ≤ e.key.due.nanos → HandsOut (fire net h e) (wrote net h e) made d.body)
    → HandsAllOn net number e.key made c.queue d.queue before after
    → (h : HostRecord) → Stands c h → h.link.time.nanos ≤ e.key.due.nanos → Fires net e h c d before after
fired net e c d made before after number number_is hands on = λ h s early.
    let o = hands h s.body early in
    let n : number ≡ h.link.number = number_is ∙ ap (λ (l : LinkState). l.number) s.body.link in
    record {
      host = record { body = o.body; made = refl; lines = refl; outputs = refl };
      queue = on.queue
          ∙ (ap (λ (k : ℕ). with_events (own_events net k made.events.items) c.queue) n
          ∙ ap (λ (es : List Event). with_events (own_events net h.link.number es) c.queue) o.events);
      parcels = on.parcels
          ∙ (ap (λ (k : ℕ). before.parcels.items ++ parcels_of net k made.events.items) n
          ∙ ap (λ (es : List Event). before.parcels.items ++ parcels_of net h.link.number es) o.events);
      lines = on.lines ∙ ap (λ (ls : List Line). before.lines.items ++ map (logged e.key) ls) o.lines;
      outputs = on.outputs ∙ ap (λ (os : List Output). before.outputs.items ++ os) o.outputs;
    }

pub no_outputs : (own : Ip) (draws : List ℕ) (count : ℕ) → (no_parts own draws count).shared.outputs ≡ []
no_outputs own draws count = refl
