-- A round: several workers fire the events that are due before its end. Its state, and the steps that change it.
use Rattle.std.specs.Prelude.{ℕ, suc, ◌==◌, List, [], ◌∷◌, ◌++◌, map, flat_map, filter, replicate, Option, None, option_to_list, if◌then◌else◌}
use Rattle.std.specs.Ordering.{is_lt}
use Rattle.sim_base.specs.Key.{key_order}
use Rattle.sim_base.specs.declared.event.Event.{Event}
use Rattle.world_order.specs.Model.{Model}
use Rattle.world_order.specs.World.{World, Logged}

-- ---- the state

-- a host waits, is in a worker's hand, or is done
pub data Stage : Type 0 where
  Waits : Stage
  InHand : ℕ → Stage
  Done : Stage

-- a host of the round, with its events, and with its places for packets that others made for it in this round
pub record Member (H : Type 0) : Type 0 where
  pub host : H
  pub queue : List Event
  pub stage : Stage
  pub places : List (Option Event)

-- the packets that the host in a worker's hand made and that aren't put yet, and those that found no place
pub record Worker : Type 0 where
  pub hand : List Event
  pub spill : List Event

-- the round's end in nanoseconds, its hosts by number, its workers by number, and the lines of the log that were made in it
pub record Round (H L : Type 0) : Type 0 where
  pub end : ℕ
  pub members : List (Member H)
  pub workers : List Worker
  pub lines : List (Logged L)

-- a round goes on, or is closed, and is then a world that has the lines of this round alone
pub data State (H L : Type 0) : Type 0 where
  Going : Round H L → State H L
  Closed : World H L → State H L

-- ---- its opening

-- how many places a host has
abbrev pub place_count : ℕ
place_count = 16

-- the events of one home
abbrev pub events_at : {H L : Type 0} → Model H L → ℕ → List Event → List Event
events_at m number events = filter (λ e. m.home e == number) events

module _ {H L : Type 0} where
  abbrev pub opened_from : Model H L → List Event → ℕ → List H → List (Member H)
  opened_from m events number [] = []
  opened_from m events number (host ∷ hosts) =
      record { host = host; queue = events_at m number events; stage = Waits; places = replicate place_count None }
      ∷ opened_from m events (suc number) hosts

  -- the round on a world: all hosts wait, each with its own events, and there is nothing else
  abbrev pub opened : Model H L → ℕ → ℕ → World H L → Round H L
  opened m end workers w = record {
    end = end;
    members = opened_from m w.events 0 w.hosts;
    workers = replicate workers (record { hand = []; spill = [] });
    lines = [];
  }

-- ---- its end

-- the events in places
abbrev pub placed : List (Option Event) → List Event
placed places = flat_map option_to_list places

-- a line stands before those whose key its key doesn't come after
abbrev pub with_line : {L : Type 0} → Logged L → List (Logged L) → List (Logged L)
with_line line [] = line ∷ []
with_line line (next ∷ lines) = if is_lt (key_order next.key line.key) then next ∷ with_line line lines else line ∷ next ∷ lines

-- lines in the order of their keys, those of one key in the order that they have
abbrev pub in_order : {L : Type 0} → List (Logged L) → List (Logged L)
in_order [] = []
in_order (line ∷ lines) = with_line line (in_order lines)

module _ {H L : Type 0} where
  -- the packets that were made in the round: in places, in hands and in spills
  abbrev pub packets_of : Round H L → List Event
  packets_of r = flat_map (λ (x : Member H). placed x.places) r.members ++ flat_map (λ (worker : Worker). worker.hand ++ worker.spill) r.workers

  -- all events
  abbrev pub events_of : Round H L → List Event
  events_of r = flat_map (λ (x : Member H). x.queue) r.members ++ packets_of r

  -- the world of a round: all packets join the events, and the lines stand in the order of their keys
  abbrev pub world_of : Round H L → World H L
  world_of r = record { hosts = map (λ (x : Member H). x.host) r.members; events = events_of r; log = in_order r.lines }
