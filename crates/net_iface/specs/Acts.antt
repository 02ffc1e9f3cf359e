-- pushes and releases of a lane, one after another
use Rattle.std.specs.Prelude.{◌≡◌, ℕ, ◌+◌, ◌*◌, ◌<◌, ◌≤◌, List, [], ◌∷◌, sum_by, Option, Some, None}
use Rattle.sim_base.specs.declared.packet.Packet.{Packet}
use Rattle.sim_base.specs.declared.time.Time.{Time}
use Rattle.sim_base.specs.Packet.{packet_size}
use Rattle.net_iface.specs.declared.codel.TheConstants.{INTERVAL}
use Rattle.net_iface.specs.declared.lane.Pushed.{Pushed}
use Rattle.net_iface.specs.declared.lane.Pushed.TheVariants.{Leaves, Waits, Dropped}
use Rattle.net_iface.specs.declared.lane.QueueRule.{QueueRule}
use Rattle.net_iface.specs.declared.lane.QueueRule.TheVariants.{Fifo, Codel}
use Rattle.net_iface.specs.Bucket.{BucketState}
use Rattle.net_iface.specs.Lane.{LaneState, pushed, released}

pub data LaneAct : Type 0 where
  Pushes : Time → Packet → LaneAct
  Releases : Time → LaneAct

abbrev pub time_of : LaneAct → Time
time_of (Pushes now packet) = now
time_of (Releases now) = now

abbrev pub lane_after : LaneAct → LaneState → LaneState
lane_after (Pushes now packet) lane = (pushed now packet lane).1
lane_after (Releases now) lane = (released now lane).lane

-- the packets that the rule drops
abbrev pub drops : LaneAct → LaneState → List Packet
drops (Pushes now packet) lane = []
drops (Releases now) lane = (released now lane).dropped

abbrev pub pushed_bytes : Pushed → ℕ
pushed_bytes (Leaves packet) = packet_size packet
pushed_bytes (Waits due) = 0
pushed_bytes (Dropped packet) = 0

-- the bytes of the packets that leave
abbrev pub bytes_left : LaneAct → LaneState → ℕ
bytes_left (Pushes now packet) lane = pushed_bytes (pushed now packet lane).0
bytes_left (Releases now) lane = sum_by packet_size (released now lane).packets

abbrev pub lane_after_all : List LaneAct → LaneState → LaneState
lane_after_all [] lane = lane
lane_after_all (act ∷ acts) lane = lane_after_all acts (lane_after act lane)

abbrev pub all_bytes_left : List LaneAct → LaneState → ℕ
all_bytes_left [] lane = 0
all_bytes_left (act ∷ acts) lane = bytes_left act lane + all_bytes_left acts (lane_after act lane)

-- from one state of a bucket to another some whole milliseconds came, and so many bytes left: no more
-- than the tokens that were there and those that came
pub record LeavesWithin (bytes : ℕ) (old new : BucketState) : Type 0 where
  pub millis : ℕ
  pub time : new.millis ≡ old.millis + millis
  pub rate : new.rate ≡ old.rate
  pub within : bytes + new.tokens ≤ old.tokens + old.rate * millis

-- since a time no packet can be ripe before a whole interval is over
abbrev pub IsSparedBy : Time → Option Time → Type 0
IsSparedBy from None = Unit {0}
IsSparedBy from (Some above) = from.nanos + INTERVAL ≤ above.nanos

abbrev pub IsSparedUnder : QueueRule → Time → Option Time → Type 0
IsSparedUnder Fifo from above = Unit {0}
IsSparedUnder Codel from above = IsSparedBy from above

abbrev pub IsSpared : Time → LaneState → Type 0
IsSpared from lane = IsSparedUnder lane.rule from lane.codel.above

-- no act less than an interval after a time drops a packet
abbrev pub DropNothing : Time → List LaneAct → LaneState → Type 0
DropNothing from [] lane = Unit {0}
DropNothing from (act ∷ acts) lane =
    ((time_of act).nanos < from.nanos + INTERVAL → drops act lane ≡ []) × DropNothing from acts (lane_after act lane)

-- no act is before a time
abbrev pub AreFrom : Time → List LaneAct → Type 0
AreFrom from [] = Unit {0}
AreFrom from (act ∷ acts) = (from.nanos ≤ (time_of act).nanos) × AreFrom from acts
