-- lanes of packets that wait for tokens (this project's own profile)
use Rattle.std.specs.Prelude.{ℕ, ◌≡◌, ◌≤◌, nat_le, nat_lt, Bool, true, false, List, ◌∷◌, ◌++◌, length, sum_by, Option, Some, None, option_map, slice_get, if◌then◌else◌, []}
use Rattle.sim_base.specs.declared.packet.Packet.{Packet}
use Rattle.sim_base.specs.declared.time.Time.{Time}
use Rattle.sim_base.specs.Packet.{packet_size}
use Rattle.net_iface.specs.declared.codel.TheConstants.{LARGEST}
use Rattle.net_iface.specs.declared.lane.TheConstants.{WAITING}
use Rattle.net_iface.specs.declared.codel.CodelState.{CodelState}
use Rattle.net_iface.specs.declared.lane.Pushed.{Pushed}
use Rattle.net_iface.specs.declared.lane.Pushed.TheVariants.{Leaves, Waits, Dropped}
use Rattle.net_iface.specs.declared.lane.QueueRule.{QueueRule}
use Rattle.net_iface.specs.declared.lane.QueueRule.TheVariants.{Fifo, Codel}
use Rattle.net_iface.specs.declared.lane.Taken.{Taken}
use Rattle.net_iface.specs.declared.lane.Waiting.{Waiting}
use Rattle.net_iface.specs.Bucket.{BucketState, full_bucket, bucket_at, spent, paid, due_with}
use Rattle.net_iface.specs.Codel.{new_codel, taken}

-- the rule of a lane, what CoDel keeps of it, its bucket, and the packets that wait, the front first
pub record LaneState : Type 0 where
  pub rule : QueueRule
  pub codel : CodelState
  pub bucket : BucketState
  pub waiting : List Waiting

abbrev pub waiting_size : Waiting → ℕ
waiting_size w = packet_size w.packet

-- the bytes of the packets that wait
abbrev pub waiting_bytes : List Waiting → ℕ
waiting_bytes waiting = sum_by waiting_size waiting

-- no packet is larger than the largest
abbrev pub AllFit : List Waiting → Type 0
AllFit [] = Unit {0}
AllFit (w ∷ ws) = (waiting_size w ≤ LARGEST) × AllFit ws

-- what a lane keeps
pub record IsLane (waiting : List Waiting) (bytes : ℕ) : Type 0 where
  pub fit : AllFit waiting
  pub few : length waiting ≤ WAITING
  pub told : bytes ≡ waiting_bytes waiting

abbrev pub empty_lane : ℕ → QueueRule → LaneState
empty_lane bits rule = record { rule = rule; codel = new_codel; bucket = full_bucket bits; waiting = [] }

-- the lane at a time
abbrev pub lane_at : Time → LaneState → LaneState
lane_at now lane = record lane { bucket = bucket_at now.nanos lane.bucket }

-- when a packet at the front can leave
abbrev pub due_of : BucketState → Waiting → Time
due_of bucket w = record { nanos = due_with (waiting_size w) bucket }

-- whether a packet that is taken is dropped, by the lane's rule; it waited since a time, and so many
-- bytes are left waiting
abbrev pub treated : QueueRule → Time → Time → ℕ → CodelState → Bool × CodelState
treated Fifo now since left codel = (false, codel)
treated Codel now since left codel = taken now since left codel

-- a packet waits behind those that do
abbrev pub waits_in : Time → Packet → LaneState → LaneState
waits_in now packet lane = record lane { waiting = lane.waiting ++ record { packet = packet; since = now } ∷ [] }

-- a packet arrives at an empty lane: it leaves where the tokens suffice, which are then spent; it is
-- taken then, though it did not wait
abbrev pub pushed_first : Time → Packet → LaneState → Pushed × LaneState
pushed_first now packet lane =
    if nat_le (packet_size packet) lane.bucket.tokens
    then (Leaves packet, record lane { bucket = spent (packet_size packet) lane.bucket; codel = (treated lane.rule now now 0 lane.codel).1 })
    else (Waits (Some (due_of lane.bucket (record { packet = packet; since = now }))), waits_in now packet lane)

-- a packet arrives behind others, of which at most 1000 wait
abbrev pub pushed_behind : Time → Packet → LaneState → Pushed × LaneState
pushed_behind now packet lane =
    if nat_lt (length lane.waiting) WAITING
    then (Waits None, waits_in now packet lane)
    else (Dropped packet, lane)

abbrev pub pushed_on : Time → Packet → LaneState → List Waiting → Pushed × LaneState
pushed_on now packet lane [] = pushed_first now packet lane
pushed_on now packet lane (front ∷ behind) = pushed_behind now packet lane

-- a packet arrives at a time
abbrev pub pushed : Time → Packet → LaneState → Pushed × LaneState
pushed now packet lane = pushed_on now packet (lane_at now lane) lane.waiting

-- the front was taken out of a lane, and the rule said whether it is dropped
abbrev pub taken_as : Waiting → Bool × CodelState → LaneState → Taken × LaneState
taken_as front verdict behind =
    (record { packet = front.packet; dropped = verdict.0 }, record behind { codel = verdict.1; bucket = paid verdict.0 (waiting_size front) behind.bucket })

-- the front is taken out of a lane, behind which the others stay
abbrev pub taken_front : Time → Waiting → LaneState → Taken × LaneState
taken_front now front behind = taken_as front (treated behind.rule now front.since (waiting_bytes behind.waiting) behind.codel) behind

abbrev pub with_rest : LaneState → List Waiting → LaneState
with_rest lane waiting = record lane { waiting = waiting }

-- the packets that leave and those that are dropped, and what stays
pub record Left : Type 0 where
  pub packets : List Packet
  pub dropped : List Packet
  pub lane : LaneState

abbrev pub none_left : LaneState → Left
none_left lane = record { packets = []; dropped = []; lane = lane }

abbrev pub with_taken : Bool → Packet → Left → Left
with_taken true packet left = record left { dropped = packet ∷ left.dropped }
with_taken false packet left = record left { packets = packet ∷ left.packets }

abbrev pub with_first : Taken → Left → Left
with_first t left = with_taken t.dropped t.packet left

-- packets are taken one after another
abbrev pub leaving : Time → LaneState → List Waiting → Left
leaving now lane [] = none_left (with_rest lane [])
leaving now lane (front ∷ behind) =
    if nat_le (waiting_size front) lane.bucket.tokens
    then with_first (taken_front now front (with_rest lane behind)).0 (leaving now (taken_front now front (with_rest lane behind)).1 behind)
    else none_left (with_rest lane (front ∷ behind))

-- when the front of a lane can leave, if there is one
abbrev pub next_due : LaneState → Option Time
next_due lane = option_map (due_of lane.bucket) (slice_get lane.waiting 0)

-- what a release gives, and the lane after it
pub record Release : Type 0 where
  pub packets : List Packet
  pub dropped : List Packet
  pub next : Option Time
  pub lane : LaneState

abbrev pub with_next : Left → Release
with_next left = record { packets = left.packets; dropped = left.dropped; next = next_due left.lane; lane = left.lane }

-- at a time all packets are taken that can be
abbrev pub released : Time → LaneState → Release
released now lane = with_next (leaving now (lane_at now lane) lane.waiting)
