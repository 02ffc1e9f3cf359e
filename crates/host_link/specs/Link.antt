-- The link of a host to the network: its two lanes, and the events and lines of the log that its acts make.
use Rattle.std.specs.Prelude.{ℕ, ◌+◌, ◌/◌, ◌≤◌, max, min, nat_lt, List, [], ◌∷◌, ◌++◌, if◌then◌else◌}
use Rattle.sim_base.specs.declared.act.Act.{Act}
use Rattle.sim_base.specs.declared.event.Event.{Event}
use Rattle.sim_base.specs.declared.event.What.{What}
use Rattle.sim_base.specs.declared.event.What.TheVariants as what
use Rattle.sim_base.specs.declared.key.Kind.{Kind}
use Rattle.sim_base.specs.declared.key.Kind.TheVariants as kind
use Rattle.sim_base.specs.declared.packet.Packet.{Packet}
use Rattle.sim_base.specs.declared.time.Time.{Time}
use Rattle.sim_base.specs.Units.{max_u64, millisecond, latest_time}
use Rattle.net_iface.specs.Lane.{LaneState, empty_lane}
use Rattle.net_iface.specs.declared.lane.QueueRule.TheVariants.{Fifo}
use Rattle.host_link.specs.declared.line.Line.{Line}
use Rattle.host_rows.specs.declared.row.Row.{Row}

-- the host's number; when it fires, or fired last; the number of the next event that it makes; the lane to the network and that of
-- its router; and, of the event that fires, the events made so far and the lines of the log
pub record LinkState : Type 0 where
  pub number : ℕ
  pub time : Time
  pub next : ℕ
  pub up : LaneState
  pub down : LaneState
  pub made : List Event
  pub lines : List Line

-- the lane to the network is first in, first out; the router's has the rule of the row
abbrev pub new_link : Row → LinkState
new_link row = record {
  number = row.host.index;
  time = record { nanos = 0 };
  next = 0;
  up = empty_lane row.bandwidth_up Fifo;
  down = empty_lane row.bandwidth_down row.router_queue;
  made = [];
  lines = [];
}

-- a packet of another host comes before all else that is due with it
abbrev pub kind_of : What → Kind
kind_of (what.Packet packet) = kind.Packet
kind_of _ = kind.Local

abbrev pub event_of : LinkState → Time → What → Event
event_of link due w = record {
  key = record { due = due; kind = kind_of w; source = record { index = link.number }; number = link.next };
  what = w;
}

-- every event is due at least 1 ns after the one that makes it
abbrev pub not_before_next : Time → Time → Time
not_before_next now due = record { nanos = max due.nanos (now.nanos + 1) }

-- the host makes an event with its next number; one whose number stands at the last one of 64 bits makes no more
unfoldable pub numbers : Time → What → LinkState → LinkState
numbers due w link =
    if nat_lt link.next max_u64
    then record link { next = link.next + 1; made = link.made ++ event_of link due w ∷ [] }
    else link

-- an event that another one makes
abbrev pub makes : Time → What → LinkState → LinkState
makes due w link = numbers (not_before_next link.time due) w link

-- a host that fires has come to a time
abbrev pub comes_to : Time → LinkState → LinkState
comes_to now link = record link { time = now }

-- the lanes' time has not run ahead
pub record IsLink (up down : LaneState) (now : Time) : Type 0 where
  pub up_time : up.bucket.millis ≤ now.nanos / millisecond
  pub down_time : down.bucket.millis ≤ now.nanos / millisecond
  pub early : now.nanos ≤ latest_time

-- so many nanoseconds later, or at the end of time
abbrev pub later : Time → ℕ → Time
later now nanos = record { nanos = min (now.nanos + nanos) max_u64 }

-- an act on a packet is logged
unfoldable pub logs : Act → Packet → LinkState → LinkState
logs act packet link = record link {
  lines = link.lines ++ record { time = link.time; host = record { index = link.number }; act = act; packet = packet } ∷ [];
}

-- what an event made was handed out
abbrev pub without_made : LinkState → LinkState
without_made link = record link { made = []; lines = [] }
