-- The world: all hosts, one list of events, and the log; its next world, and the result of a run.
use Rattle.std.specs.Prelude.{◌≡◌, ℕ, List, [], ◌++◌, map, Option, Some, None, if◌then◌else◌, nat_lt, option_map, option_to_list}
use Rattle.sim_base.specs.declared.event.Event.{Event}
use Rattle.sim_base.specs.declared.key.Key.{Key}
use Rattle.world_order.specs.EventOrder.{take_least}
use Rattle.world_order.specs.Model.{Model, Firing, fires}

-- a line of the log, with the key of the event that it is from
pub record Logged (L : Type 0) : Type 0 where
  pub key : Key
  pub line : L

abbrev pub logged : {L : Type 0} → Key → List L → List (Logged L)
logged key lines = map (λ line. record { key = key; line = line }) lines

-- the hosts by number, the events that wait, and the log
pub record World (H L : Type 0) : Type 0 where
  pub hosts : List H
  pub events : List Event
  pub log : List (Logged L)

module _ {H L : Type 0} where
  -- the world after a firing, the other events being these
  abbrev pub after_firing : World H L → Event → List Event → Firing H L → World H L
  after_firing w e rest f = record { hosts = f.hosts; events = rest ++ f.made; log = w.log ++ logged e.key f.lines }

  -- the event of least key fires, if it is due before the stop
  abbrev pub by_least : Model H L → ℕ → World H L → Option (Event × List Event) → Option (World H L)
  by_least m stop w None = None
  by_least m stop w (Some (e, rest)) = if nat_lt e.key.due.nanos stop then Some (after_firing w e rest (fires m w.hosts e)) else None

  -- the next world, where some event is due before the stop
  unfoldable pub next : Model H L → ℕ → World H L → Option (World H L)
  next m stop w = by_least m stop w (take_least w.events)

-- the result of a run up to a stop, in nanoseconds: the world that is reached when no event is due before the stop
pub data IsResult {H L : Type 0} (m : Model H L) (stop : ℕ) (result : World H L) : World H L → Type 0 where
  is_over : (w : World H L) → next m stop w ≡ None → w ≡ result → IsResult m stop result w
  goes_on : (w v : World H L) → next m stop w ≡ Some v → IsResult m stop result v → IsResult m stop result w

-- the events that fire on the way to it, in their order
abbrev pub least_of : List Event → List Event
least_of events = option_to_list (option_map (λ (taken : Event × List Event). taken.0) (take_least events))

unfoldable pub fired_by : {H L : Type 0} (m : Model H L) (stop : ℕ) (result w : World H L) → IsResult m stop result w → List Event
fired_by m stop result start (is_over w over same) = []
fired_by m stop result start (goes_on w v is rest) = least_of w.events ++ fired_by m stop result v rest
