-- Hosts of any kind: what an event does to the host at which it fires.
use Rattle.std.specs.Prelude.{ℕ, List, [], Option, Some, None, slice_get, slice_set}
use Rattle.sim_base.specs.declared.event.Event.{Event}

-- what firing an event leaves: the host, the events that it made, in the order of their numbers, and its lines of the log, in the
-- order of its acts
pub record Fired (H L : Type 0) : Type 0 where
  pub host : H
  pub made : List Event
  pub lines : List L

-- a kind of hosts: what firing an event does to the host of that number, at which host an event fires, which number the next event
-- that a host makes gets, and when, in nanoseconds, it fired last
pub record Model (H L : Type 0) : Type 0 where
  pub fire : ℕ → H → Event → Fired H L
  pub home : Event → ℕ
  pub next : H → ℕ
  pub clock : H → ℕ

-- what a firing among all hosts leaves
pub record Firing (H L : Type 0) : Type 0 where
  pub hosts : List H
  pub made : List Event
  pub lines : List L

module _ {H L : Type 0} where
  abbrev pub with_host : List H → ℕ → Fired H L → Firing H L
  with_host hosts number f = record { hosts = slice_set hosts number f.host; made = f.made; lines = f.lines }

  -- where no such host is there, nothing happens
  abbrev pub fires_at : Model H L → List H → Event → Option H → Firing H L
  fires_at m hosts e None = record { hosts = hosts; made = []; lines = [] }
  fires_at m hosts e (Some host) = with_host hosts (m.home e) (m.fire (m.home e) host e)

  -- an event fires at its home
  abbrev pub fires : Model H L → List H → Event → Firing H L
  fires m hosts e = fires_at m hosts e (slice_get hosts (m.home e))
