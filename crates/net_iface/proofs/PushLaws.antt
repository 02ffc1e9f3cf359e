-- what a push lets through counts as taken with no wait
use Rattle.std.proofs.Common.{◌≡◌, ℕ, Bool, true, false, List, [], ◌∷◌, length, None, cond, refl, sym, ap, arith}
use Rattle.std.proofs.lemmas.Bool.Decides.{nat_tests}
use Rattle.std.specs.Prelude.{nat_le, nat_lt}
use Rattle.sim_base.specs.declared.packet.Packet.{Packet}
use Rattle.sim_base.specs.declared.time.Time.{Time}
use Rattle.sim_base.specs.Packet.{packet_size}
use Rattle.net_iface.specs.declared.codel.CodelState.{CodelState}
use Rattle.net_iface.specs.declared.lane.Pushed.{Pushed}
use Rattle.net_iface.specs.declared.lane.Pushed.TheVariants.{Leaves, Waits, Dropped}
use Rattle.net_iface.specs.declared.lane.QueueRule.{QueueRule}
use Rattle.net_iface.specs.declared.lane.QueueRule.TheVariants.{Fifo, Codel}
use Rattle.net_iface.specs.declared.lane.Waiting.{Waiting}
use Rattle.net_iface.specs.Bucket.{BucketState, spent}
use Rattle.net_iface.specs.Codel.{is_good, ripened, decided}
use Rattle.net_iface.specs.Lane.{LaneState, lane_at, treated, pushed_on, pushed}
use Rattle.net_iface.specs.Acts.{LaneAct, IsSpared, AreFrom, DropNothing}
use Rattle.net_iface.proofs.DropLaws.{good_spared, spared}

-- no wait is under the target
no_wait : (now : Time) (left : ℕ) → is_good now now left ≡ true
no_wait now left = grind (arith, nat_tests)

judged_good : (now : Time) (c : CodelState) (good : Bool) → good ≡ true → (decided now (cond good (false, None) (ripened now c.above)).0 (record c { above = (cond good (false, None) (ripened now c.above)).1 })).0 ≡ false
judged_good now c true e = refl
judged_good now c false e = cc

let_through : (rule : QueueRule) (now : Time) (c : CodelState) → (treated rule now now 0 c).0 ≡ false
let_through Fifo now c = refl
let_through Codel now c = judged_good now c (is_good now now 0) (no_wait now 0)

-- which push lets its packet through
abbrev IsTaken : Time → LaneState → LaneState → Type 0
IsTaken now lane after =
    ((false, after.codel) ≡ treated lane.rule now now 0 lane.codel) × IsSpared now after

taken_now : (now : Time) (lane : LaneState) (bucket : BucketState) → IsTaken now lane (record lane { bucket = bucket; codel = (treated lane.rule now now 0 lane.codel).1 })
taken_now now lane bucket =
    let t = treated lane.rule now now 0 lane.codel in
    (ap (λ (b : Bool). (b, t.1)) (sym (let_through lane.rule now lane.codel)), good_spared lane.rule now now 0 lane.codel (no_wait now 0))

first_taken : (now : Time) (packet : Packet) (lane after before : LaneState) (told : Pushed) (enough : Bool) → IsTaken now lane after → (told ≡ Leaves packet → ⊥)
    → (cond {A = Pushed × LaneState} enough (Leaves packet, after) (told, before)).0 ≡ Leaves packet
    → IsTaken now lane (cond {A = Pushed × LaneState} enough (Leaves packet, after) (told, before)).1
first_taken now packet lane after before told true taken other e = taken
first_taken now packet lane after before told false taken other e = absurd (other e)

none_behind : (packet : Packet) (after before : LaneState) (room : Bool) → (cond {A = Pushed × LaneState} room (Waits None, after) (Dropped packet, before)).0 ≡ Leaves packet → ⊥
none_behind packet after before true e = cc
none_behind packet after before false e = cc

on_taken : (now : Time) (packet : Packet) (lane : LaneState) (ws : List Waiting) → (pushed_on now packet lane ws).0 ≡ Leaves packet → IsTaken now lane (pushed_on now packet lane ws).1
on_taken now packet lane [] e =
    first_taken now packet lane _ _ _ (nat_le (packet_size packet) lane.bucket.tokens) (taken_now now lane (spent (packet_size packet) lane.bucket)) (λ w. cc) e
on_taken now packet lane (w ∷ ws) e =
    absurd (none_behind packet _ _ (nat_lt (length lane.waiting) 1000) e)

pub taken_by_push : (now : Time) (packet : Packet) (lane : LaneState) → (pushed now packet lane).0 ≡ Leaves packet → (false, (pushed now packet lane).1.codel) ≡ treated lane.rule now now 0 lane.codel
taken_by_push now packet lane e = (on_taken now packet (lane_at now lane) lane.waiting e).0

pub spared_by_push : (now : Time) (packet : Packet) (lane : LaneState) (acts : List LaneAct) → (pushed now packet lane).0 ≡ Leaves packet → AreFrom now acts → DropNothing now acts (pushed now packet lane).1
spared_by_push now packet lane acts e from =
    spared now acts (pushed now packet lane).1 (on_taken now packet (lane_at now lane) lane.waiting e).1 from
