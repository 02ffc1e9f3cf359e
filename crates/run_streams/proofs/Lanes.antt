-- the packets of a lane: it gives what waited or came
use Rattle.std.proofs.Common.{Bool, true, false, nat_le, nat_lt, List, [], ◌∷◌, ◌++◌, length}
use Rattle.sim_base.specs.Packet.{packet_size}
use Rattle.sim_base.specs.declared.packet.Packet.{Packet}
use Rattle.sim_base.specs.declared.time.Time.{Time}
use Rattle.net_iface.specs.declared.lane.TheConstants.{WAITING}
use Rattle.net_iface.specs.declared.lane.Pushed.{Pushed}
use Rattle.net_iface.specs.declared.lane.Waiting.{Waiting}
use Rattle.net_iface.specs.Lane.{LaneState, Left, waiting_size, lane_at, pushed_first, pushed_behind, pushed_on, pushed, taken_front, with_rest, with_taken, leaving, released}
use Rattle.tcp_laws.proofs.Tests.{by_test}
use Rattle.host_laws.proofs.Walks.{PushIs}
use Rattle.run_streams.proofs.Every.{Every, every_append}

module _ (P : Packet → Type 0) where
  abbrev pub EachWaits : List Waiting → Type 0
  EachWaits ws = Every (λ (w : Waiting). P w.packet) ws

  abbrev pub PushFits : Pushed → Type 0
  PushFits t = PushIs P t

  abbrev pub HasPushed : Pushed × LaneState → Type 0
  HasPushed t = PushFits t.0 × EachWaits t.1.waiting

  behind : (now : Time) (packet : Packet) (ws : List Waiting) → P packet → EachWaits ws → EachWaits (ws ++ record { packet = packet; since = now } ∷ [])
  behind now packet ws here each =
      every_append (λ (w : Waiting). P w.packet) ws (record { packet = packet; since = now } ∷ []) each (here, tt)

  push_first : (now : Time) (packet : Packet) (lane : LaneState) → P packet → EachWaits lane.waiting → HasPushed (pushed_first now packet lane)
  push_first now packet lane here each =
      by_test HasPushed (nat_le (packet_size packet) lane.bucket.tokens) _ _ (λ e. (here, each)) (λ e. (tt, behind now packet lane.waiting here each))

  push_behind : (now : Time) (packet : Packet) (lane : LaneState) → P packet → EachWaits lane.waiting → HasPushed (pushed_behind now packet lane)
  push_behind now packet lane here each =
      by_test HasPushed (nat_lt (length lane.waiting) WAITING) _ _ (λ e. (tt, behind now packet lane.waiting here each)) (λ e. (here, each))

  push_on : (now : Time) (packet : Packet) (lane : LaneState) (ws : List Waiting) → P packet → EachWaits lane.waiting → HasPushed (pushed_on now packet lane ws)
  push_on now packet lane [] here each = push_first now packet lane here each
  push_on now packet lane (w ∷ ws) here each = push_behind now packet lane here each

  pub push_fits : (now : Time) (packet : Packet) (lane : LaneState) → P packet → EachWaits lane.waiting → HasPushed (pushed now packet lane)
  push_fits now packet lane here each = push_on now packet (lane_at now lane) lane.waiting here each

  abbrev HasLeft : Left → Type 0
  HasLeft left = Every P left.packets × EachWaits left.lane.waiting

  taken_fits : (dropped : Bool) (packet : Packet) (left : Left) → P packet → HasLeft left → HasLeft (with_taken dropped packet left)
  taken_fits true packet left here fits = fits
  taken_fits false packet left here fits = ((here, fits.0), fits.1)

  leaving_fits : (now : Time) (lane : LaneState) (ws : List Waiting) → EachWaits ws → HasLeft (leaving now lane ws)
  leaving_fits now lane [] each = (tt, tt)
  leaving_fits now lane (w ∷ ws) each =
      by_test HasLeft (nat_le (waiting_size w) lane.bucket.tokens) _ _
      (λ e. taken_fits _ w.packet _ each.0 (leaving_fits now (taken_front now w (with_rest lane ws)).1 ws each.1))
      (λ e. (tt, each))

  pub release_fits : (now : Time) (lane : LaneState) → EachWaits lane.waiting → Every P (released now lane).packets × EachWaits (released now lane).lane.waiting
  release_fits now lane each = leaving_fits now (lane_at now lane) lane.waiting each

  -- and what it drops
  taken_drops : (dropped : Bool) (packet : Packet) (left : Left) → P packet → Every P left.dropped → Every P (with_taken dropped packet left).dropped
  taken_drops true packet left here each = (here, each)
  taken_drops false packet left here each = each

  leaving_drops : (now : Time) (lane : LaneState) (ws : List Waiting) → EachWaits ws → Every P (leaving now lane ws).dropped
  leaving_drops now lane [] each = tt
  leaving_drops now lane (w ∷ ws) each =
      by_test (λ (left : Left). Every P left.dropped) (nat_le (waiting_size w) lane.bucket.tokens) _ _
      (λ e. taken_drops _ w.packet _ each.0 (leaving_drops now (taken_front now w (with_rest lane ws)).1 ws each.1))
      (λ e. tt)

  pub release_drops : (now : Time) (lane : LaneState) → EachWaits lane.waiting → Every P (released now lane).dropped
  release_drops now lane each = leaving_drops now (lane_at now lane) lane.waiting each
