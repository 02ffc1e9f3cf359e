-- Worlds between rounds, and what a round leaves.
use Rattle.std.specs.Prelude.{◌≡◌, ℕ, ◌<◌, ◌≤◌, List, ◌++◌, length, All, IsPermutation, Option, Some, None, slice_get}
use Rattle.sim_base.specs.declared.event.Event.{Event}
use Rattle.world_order.specs.EventOrder.{AreApart}
use Rattle.world_order.specs.Model.{Model}
use Rattle.world_order.specs.Premises.{Simulation}
use Rattle.world_order.specs.Round.{Round, events_of, packets_of}
use Rattle.world_order.specs.World.{World}

-- no event is due before that time
abbrev pub AreDueFrom : ℕ → List Event → Type 0
AreDueFrom time events = All (λ (e : Event). time ≤ e.key.due.nanos) events

module _ {H L : Type 0} where
  abbrev pub number_of : Model H L → Option H → ℕ
  number_of m None = 0
  number_of m (Some host) = m.next host

  -- the number that the next event of a source gets
  abbrev pub next_at : Model H L → List H → ℕ → ℕ
  next_at m hosts source = number_of m (slice_get hosts source)

  -- a world between rounds: all hosts are there; no two events have the same key, and each has a number that its source gave; what has to
  -- hold of hosts and events holds; no host has fired an event due later than one that waits
  pub record IsSettled (sim : Simulation H L) (w : World H L) : Type 0 where
    pub count : length w.hosts ≡ sim.count
    pub apart : AreApart w.events
    pub below : All (λ (e : Event). e.key.number < next_at sim.model w.hosts e.key.source.index) w.events
    pub events : All sim.IsEvent w.events
    pub hosts : (i : ℕ) (host : H) → slice_get w.hosts i ≡ Some host → sim.IsHost i host
    pub limited : (i : ℕ) (host : H) → slice_get w.hosts i ≡ Some host → sim.model.next host ≤ sim.limit
    pub clock : (i : ℕ) (host : H) → slice_get w.hosts i ≡ Some host → All (λ (e : Event). sim.model.clock host ≤ e.key.due.nanos) w.events

  -- what a closed round on a world leaves, where the model's turns before the end lead to another world: the same hosts, the same events
  -- each once, the same log, and no event that is due before the end
  pub record Leaves (end : ℕ) (opened model closed : World H L) : Type 0 where
    pub hosts : closed.hosts ≡ model.hosts
    pub events : IsPermutation closed.events model.events
    pub log : opened.log ++ closed.log ≡ model.log
    pub over : AreDueFrom end closed.events

  -- in a round that goes on each packet that was made stands exactly once, in a place, a hand or a spill, and is due at the end or later
  pub record AreLaid (end : ℕ) (r : Round H L) (packets : List Event) : Type 0 where
    pub once : IsPermutation (packets_of r) packets
    pub late : AreDueFrom end (packets_of r)
    pub apart : AreApart (events_of r)
