-- What becomes of what a host made.
use Rattle.std.specs.Prelude.{◌≡◌, ℕ, Bool, List, [], ◌∷◌, ◌++◌, map, if◌then◌else◌}
use Rattle.event_order.specs.Events.{has_key, with_event}
use Rattle.sim_base.specs.declared.event.Event.{Event}
use Rattle.sim_base.specs.declared.key.Key.{Key}
use Rattle.host_link.specs.Net.{Net}
use Rattle.host_link.specs.declared.outbox.Made.{Made}
use Rattle.host_link.specs.declared.outbox.Outbox.{Outbox}
use Rattle.host_link.specs.Outbox.{own_events, parcels_of, logged}

-- events are held one after another, each key once
abbrev pub held_once : Bool → Event → List Event → List Event
held_once had e queue = if had then queue else with_event e queue

abbrev pub with_events : List Event → List Event → List Event
with_events [] queue = queue
with_events (e ∷ es) queue = with_events es (held_once (has_key e.key queue) e queue)

-- of the events that a host made its own are held, and the packets of the others are added to an outbox
pub record HandsOn (net : Net) (host : ℕ) (made held now : List Event) (before after : Outbox) : Type 0 where
  pub queue : now ≡ with_events (own_events net host made) held
  pub parcels : after.parcels.items ≡ before.parcels.items ++ parcels_of net host made
  pub lines : after.lines ≡ before.lines
  pub outputs : after.outputs ≡ before.outputs

-- and so are the lines of a firing, and what processes wrote
pub record HandsAllOn (net : Net) (host : ℕ) (key : Key) (made : Made) (held now : List Event) (before after : Outbox) : Type 0 where
  pub queue : now ≡ with_events (own_events net host made.events.items) held
  pub parcels : after.parcels.items ≡ before.parcels.items ++ parcels_of net host made.events.items
  pub lines : after.lines.items ≡ before.lines.items ++ map (logged key) made.lines.items
  pub outputs : after.outputs.items ≡ before.outputs.items ++ made.outputs.items
