-- What lanes give of packets that are not too large.
use Rattle.std.proofs.Common.{◌≤◌, true, false, nat_le, nat_lt, Bool, List, [], ◌∷◌, ◌++◌, length}
use Rattle.std.specs.List.{AllByRecursion}
use Rattle.sim_base.specs.Packet.{packet_size}
use Rattle.sim_base.specs.declared.packet.Packet.{Packet}
use Rattle.sim_base.specs.declared.size.TheConstants.{MAX_PACKET}
use Rattle.sim_base.specs.declared.time.Time.{Time}
use Rattle.net_iface.specs.declared.lane.TheConstants.{WAITING}
use Rattle.net_iface.specs.declared.lane.Pushed.{Pushed}
use Rattle.net_iface.specs.declared.lane.Waiting.{Waiting}
use Rattle.net_iface.specs.Lane.{LaneState, Left, AllFit, waiting_size, lane_at, pushed_first, pushed_behind, pushed_on, pushed, taken_front, with_rest, with_taken, leaving}
use Rattle.host_state.proofs.Growth.{by_if}
use Rattle.host_laws.proofs.Walks.{PushIs}

behind_fits : (ws : List Waiting) (w : Waiting) → AllFit ws → waiting_size w ≤ MAX_PACKET → AllFit (ws ++ w ∷ [])
behind_fits [] w h small = (small, tt)
behind_fits (x ∷ ws) w h small = (h.0, behind_fits ws w h.1 small)

abbrev pub IsSmall : Packet → Type 0
IsSmall packet = packet_size packet ≤ MAX_PACKET

abbrev pub FitsPush : Pushed × LaneState → Type 0
FitsPush t = PushIs IsSmall t.0 × AllFit t.1.waiting

push_first : (now : Time) (packet : Packet) (lane : LaneState) → packet_size packet ≤ MAX_PACKET → AllFit lane.waiting → FitsPush (pushed_first now packet lane)
push_first now packet lane small fit =
    by_if FitsPush (nat_le (packet_size packet) lane.bucket.tokens) _ _ (λ e. (small, fit)) (λ e. (tt, behind_fits lane.waiting _ fit small))

push_behind : (now : Time) (packet : Packet) (lane : LaneState) → packet_size packet ≤ MAX_PACKET → AllFit lane.waiting → FitsPush (pushed_behind now packet lane)
push_behind now packet lane small fit =
    by_if FitsPush (nat_lt (length lane.waiting) WAITING) _ _ (λ e. (tt, behind_fits lane.waiting _ fit small)) (λ e. (small, fit))

push_on : (now : Time) (packet : Packet) (lane : LaneState) (ws : List Waiting) → packet_size packet ≤ MAX_PACKET → AllFit lane.waiting → FitsPush (pushed_on now packet lane ws)
push_on now packet lane [] small fit = push_first now packet lane small fit
push_on now packet lane (w ∷ ws) small fit = push_behind now packet lane small fit

pub pushed_fits : (now : Time) (packet : Packet) (lane : LaneState) → packet_size packet ≤ MAX_PACKET → AllFit lane.waiting → FitsPush (pushed now packet lane)
pushed_fits now packet lane small fit = push_on now packet (lane_at now lane) lane.waiting small fit

-- what leaves, what is dropped, and what stays
pub record FitsLeft (left : Left) : Type 0 where
  pub packets : AllByRecursion IsSmall left.packets
  pub dropped : AllByRecursion IsSmall left.dropped
  pub waiting : AllFit left.lane.waiting

taken_fits : (dropped : Bool) (packet : Packet) (left : Left) → packet_size packet ≤ MAX_PACKET → FitsLeft left → FitsLeft (with_taken dropped packet left)
taken_fits true packet left small fits = record { packets = fits.packets; dropped = (small, fits.dropped); waiting = fits.waiting }
taken_fits false packet left small fits = record { packets = (small, fits.packets); dropped = fits.dropped; waiting = fits.waiting }

leaving_fits : (now : Time) (lane : LaneState) (ws : List Waiting) → AllFit ws → FitsLeft (leaving now lane ws)
leaving_fits now lane [] fit = record { packets = tt; dropped = tt; waiting = tt }
leaving_fits now lane (w ∷ ws) fit =
    by_if FitsLeft (nat_le (waiting_size w) lane.bucket.tokens) _ _
    (λ e. taken_fits _ w.packet _ fit.0 (leaving_fits now (taken_front now w (with_rest lane ws)).1 ws fit.1))
    (λ e. record { packets = tt; dropped = tt; waiting = fit })

pub left_fits : (now : Time) (lane : LaneState) → AllFit lane.waiting → FitsLeft (leaving now (lane_at now lane) lane.waiting)
left_fits now lane fit = leaving_fits now (lane_at now lane) lane.waiting fit
