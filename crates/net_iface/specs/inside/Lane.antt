-- The first packet of a lane.
use Rattle.std.specs.Prelude.{nat_le, List, ◌∷◌, Option, Some, None, if◌then◌else◌, []}
use Rattle.sim_base.specs.declared.time.Time.{Time}
use Rattle.net_iface.specs.declared.lane.Taken.{Taken}
use Rattle.net_iface.specs.declared.lane.Waiting.{Waiting}
use Rattle.net_iface.specs.Lane.{LaneState, waiting_size, taken_front, with_rest}

-- the front comes out, if there is one
abbrev pub popped : LaneState → List Waiting → Option Waiting × LaneState
popped lane [] = (None, with_rest lane [])
popped lane (front ∷ behind) = (Some front, with_rest lane behind)

abbrev pub first_of : Taken × LaneState → Option Taken × LaneState
first_of t = (Some t.0, t.1)

-- the front is taken where the tokens suffice for it
abbrev pub front_taken : Time → LaneState → List Waiting → Option Taken × LaneState
front_taken now lane [] = (None, with_rest lane [])
front_taken now lane (front ∷ behind) =
    if nat_le (waiting_size front) lane.bucket.tokens
    then first_of (taken_front now front (with_rest lane behind))
    else (None, with_rest lane (front ∷ behind))
