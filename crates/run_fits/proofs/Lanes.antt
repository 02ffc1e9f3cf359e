-- what lanes give of whole packets
use Rattle.std.proofs.Common.{Bool, List, [], false, length, nat_le, nat_lt, true, ◌++◌, ◌∷◌}
use Rattle.std.specs.List.{AllByRecursion}
use Rattle.net_iface.specs.Lane.{LaneState, Left, lane_at, leaving, pushed, pushed_on, taken_front, waiting_size, with_rest, with_taken}
use Rattle.net_iface.specs.declared.lane.TheConstants.{WAITING}
use Rattle.net_iface.specs.declared.lane.Waiting.{Waiting}
use Rattle.net_iface.specs.declared.lane.Pushed.{Pushed}
use Rattle.host_laws.proofs.Walks.{PushIs}
use Rattle.pcap_text.specs.Laws.{IsWhole}
use Rattle.run_fits.proofs.Bytes.{all_append}
use Rattle.run_fits.specs.Packets.{AreWhole}
use Rattle.sim_base.specs.Packet.{packet_size}
use Rattle.sim_base.specs.declared.packet.Packet.{Packet}
use Rattle.sim_base.specs.declared.time.Time.{Time}
use Rattle.tcp_laws.proofs.Tests.{by_test}

abbrev pub AllWait : List Waiting → Type 0
AllWait waiting = AllByRecursion (λ (w : Waiting). IsWhole w.packet) waiting

-- what a push gives, also what it drops
abbrev pub PushFits : Pushed × LaneState → Type 0
PushFits t = PushIs IsWhole t.0 × AllWait t.1.waiting

waits_behind : (ws : List Waiting) (w : Waiting) → AllWait ws → IsWhole w.packet → AllWait (ws ++ w ∷ [])
waits_behind ws w h whole = all_append (λ (x : Waiting). IsWhole x.packet) ws (w ∷ []) h (whole, tt)

push_by : (now : Time) (packet : Packet) (lane : LaneState) (ws : List Waiting) → IsWhole packet → AllWait lane.waiting → PushFits (pushed_on now packet lane ws)
push_by now packet lane [] whole h =
    by_test PushFits (nat_le (packet_size packet) lane.bucket.tokens) _ _ (λ e. (whole, h)) (λ e. (tt, waits_behind lane.waiting _ h whole))
push_by now packet lane (w ∷ ws) whole h =
    by_test PushFits (nat_lt (length lane.waiting) WAITING) _ _ (λ e. (tt, waits_behind lane.waiting _ h whole)) (λ e. (whole, h))

pub pushed_whole : (now : Time) (packet : Packet) (lane : LaneState) → IsWhole packet → AllWait lane.waiting → PushFits (pushed now packet lane)
pushed_whole now packet lane whole h = push_by now packet (lane_at now lane) lane.waiting whole h

-- what leaves, what is dropped, and what stays
abbrev pub LeftWhole : Left → Type 0
LeftWhole left = AreWhole left.packets × AreWhole left.dropped × AllWait left.lane.waiting

taken_whole : (dropped : Bool) (packet : Packet) (left : Left) → IsWhole packet → LeftWhole left → LeftWhole (with_taken dropped packet left)
taken_whole true packet left whole h = (h.0, (whole, h.1), h.2)
taken_whole false packet left whole h = ((whole, h.0), h.1, h.2)

leaving_whole : (now : Time) (lane : LaneState) (ws : List Waiting) → AllWait ws → LeftWhole (leaving now lane ws)
leaving_whole now lane [] h = (tt, tt, tt)
leaving_whole now lane (w ∷ ws) h =
    by_test LeftWhole (nat_le (waiting_size w) lane.bucket.tokens) _ _
    (λ e. taken_whole _ w.packet _ h.0 (leaving_whole now (taken_front now w (with_rest lane ws)).1 ws h.1))
    (λ e. (tt, tt, h))

pub left_whole : (now : Time) (lane : LaneState) → AllWait lane.waiting → LeftWhole (leaving now (lane_at now lane) lane.waiting)
left_whole now lane h = leaving_whole now (lane_at now lane) lane.waiting h
