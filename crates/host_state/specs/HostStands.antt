-- What a host of the code stands for, and what its calls leave.
use Rattle.std.specs.Prelude.{◌≡◌, [], ◌++◌, map}
use Rattle.sim_base.specs.declared.event.Event.{Event}
use Rattle.host_state.specs.declared.host.Host.{Host}
use Rattle.host_link.specs.Net.{Net}
use Rattle.host_link.specs.declared.outbox.Outbox.{Outbox}
use Rattle.host_rows.specs.declared.row.Row.{Row}
use Rattle.host_state.specs.Fire.{fire, wrote}
use Rattle.host_state.specs.HostRecord.{HostRecord}
use Rattle.host_state.specs.Opening.{opening}
use Rattle.host_link.specs.Handing.{with_events}
use Rattle.host_link.specs.Outbox.{own_events, parcels_of, logged}
use Rattle.host_state.specs.StandsFor.{BodyStands}

-- between firings there is nothing to hand out
pub record Stands (c : Host) (h : HostRecord) : Type 0 where
  pub body : BodyStands c.body h
  pub made : h.link.made ≡ []
  pub lines : h.link.lines ≡ []
  pub outputs : h.parts.shared.outputs ≡ []

-- it stands for what it stood for
abbrev pub IsSameBody : Host → Host → Type 0
IsSameBody old new = (h : HostRecord) → Stands old h → Stands new h

-- what a firing leaves at the host, which holds what it made for itself, and what it adds to an outbox: packets for others, lines, and what
-- the host's processes wrote
pub record Fires (net : Net) (e : Event) (h : HostRecord) (old new : Host) (before after : Outbox) : Type 0 where
  pub host : Stands new (fire net h e).host
  pub queue : new.queue ≡ with_events (own_events net h.link.number (fire net h e).made) old.queue
  pub parcels : after.parcels.items ≡ before.parcels.items ++ parcels_of net h.link.number (fire net h e).made
  pub lines : after.lines.items ≡ before.lines.items ++ map (logged e.key) (fire net h e).lines
  pub outputs : after.outputs.items ≡ before.outputs.items ++ wrote net h e

-- a host at the beginning, with its events
pub record Begins (row : Row) (new : Host) : Type 0 where
  pub host : Stands new (opening row).host
  pub queue : new.queue ≡ with_events (opening row).made []
