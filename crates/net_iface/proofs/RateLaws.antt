-- what leaves a lane, and its tokens
use Rattle.std.proofs.Common.{◌≡◌, ℕ, zero, suc, ◌+◌, ◌-◌, ◌*◌, ◌/◌, ◌≤◌, Bool, true, false, cond, List, [], ◌∷◌, length, refl, ◌∙◌, arith}
use Rattle.std.proofs.lemmas.Bool.Decides.{nat_tests}
use Rattle.std.proofs.lemmas.List.Sums.{sum_by-cons}
use Rattle.std.specs.Prelude.{nat_le, nat_lt, sum_by}
use Rattle.sim_base.specs.declared.packet.Packet.{Packet}
use Rattle.sim_base.specs.declared.time.Time.{Time}
use Rattle.sim_base.specs.Packet.{packet_size}
use Rattle.sim_base.specs.Units.{millisecond}
use Rattle.net_iface.specs.declared.lane.Pushed.{Pushed}
use Rattle.net_iface.specs.declared.lane.Waiting.{Waiting}
use Rattle.net_iface.specs.Bucket.{BucketState, ticked, after_ticks, bucket_at, spent, paid}
use Rattle.net_iface.specs.Lane.{LaneState, Left, lane_at, waiting_size, waiting_bytes, treated, with_rest, taken_front, none_left, with_taken, leaving, pushed_on}
use Rattle.net_iface.specs.Acts.{LaneAct, Pushes, Releases, lane_after, bytes_left, pushed_bytes, lane_after_all, all_bytes_left, LeavesWithin}

none_leave : (b : BucketState) → LeavesWithin 0 b b
none_leave b = record { millis = 0; time = omega arith; rate = refl; within = omega arith }

times_sum : (r m n : ℕ) → r * (m + n) ≡ r * m + r * n
times_sum r m n = omega arith

some_leave : (m n : ℕ) (x y z : BucketState) → LeavesWithin m x y → LeavesWithin n y z → LeavesWithin (m + n) x z
some_leave m n x y z h k = record {
  millis = h.millis + k.millis;
  time = omega (arith, h.time, k.time);
  rate = k.rate ∙ h.rate;
  within =
      let same : y.rate * k.millis ≡ x.rate * k.millis = λ i. h.rate i * k.millis in
      omega (arith, h.within, k.within, same, times_sum x.rate h.millis k.millis);
}

tick_leaves : (b : BucketState) → LeavesWithin 0 b (ticked b)
tick_leaves b = record { millis = 1; time = refl; rate = refl; within = omega arith }

ticks_leave : (n : ℕ) (b : BucketState) → LeavesWithin 0 b (after_ticks n b)
unfolding after_ticks
ticks_leave zero b = none_leave b
ticks_leave (suc n) b = some_leave 0 0 b (ticked b) (after_ticks n (ticked b)) (tick_leaves b) (ticks_leave n (ticked b))

spent_leaves : (n : ℕ) (b : BucketState) → n ≤ b.tokens → LeavesWithin n b (spent n b)
spent_leaves n b h = record { millis = 0; time = omega arith; rate = refl; within = omega arith }

-- the bytes of a packet that may be dropped
abbrev kept_bytes : Bool → ℕ → ℕ
kept_bytes true n = 0
kept_bytes false n = n

paid_leaves : (dropped : Bool) (n : ℕ) (b : BucketState) → n ≤ b.tokens → LeavesWithin (kept_bytes dropped n) b (paid dropped n b)
paid_leaves true n b h = none_leave b
paid_leaves false n b h = spent_leaves n b h

abbrev left_bytes : Left → ℕ
left_bytes left = sum_by packet_size left.packets

taken_bytes : (dropped : Bool) (packet : Packet) (left : Left) → left_bytes (with_taken dropped packet left) ≡ kept_bytes dropped (packet_size packet) + left_bytes left
taken_bytes true packet left = omega arith
taken_bytes false packet left = sum_by-cons packet_size packet left.packets

with_bytes : (m n : ℕ) (x y : BucketState) → n ≡ m → LeavesWithin m x y → LeavesWithin n x y
with_bytes m n x y e h = record { millis = h.millis; time = h.time; rate = h.rate; within = omega (arith, h.within) }

lane_of_taken : (dropped : Bool) (packet : Packet) (left : Left) → (with_taken dropped packet left).lane ≡ left.lane
lane_of_taken true packet left = refl
lane_of_taken false packet left = refl

taken_leaves : (dropped : Bool) (packet : Packet) (left : Left) (b : BucketState) → packet_size packet ≤ b.tokens → LeavesWithin (left_bytes left) (paid dropped (packet_size packet) b) left.lane.bucket
    → LeavesWithin (left_bytes (with_taken dropped packet left)) b (with_taken dropped packet left).lane.bucket
taken_leaves true packet left b h k = k
taken_leaves false packet left b h k =
    with_bytes _ _ b left.lane.bucket (taken_bytes false packet left) (some_leave (packet_size packet) (left_bytes left) b (spent (packet_size packet) b) left.lane.bucket (spent_leaves (packet_size packet) b h) k)

front_leaves : (n tokens : ℕ) (enough : Bool) (left other : Left) (b : BucketState) → nat_le n tokens ≡ enough → (n ≤ tokens → LeavesWithin (left_bytes left) b left.lane.bucket)
    → LeavesWithin (left_bytes other) b other.lane.bucket → LeavesWithin (left_bytes (cond enough left other)) b (cond enough left other).lane.bucket
front_leaves n tokens true left other b e h k = h (grind (arith, nat_tests))
front_leaves n tokens false left other b e h k = k

leaving_leaves : (now : Time) (lane : LaneState) (ws : List Waiting) → LeavesWithin (left_bytes (leaving now lane ws)) lane.bucket (leaving now lane ws).lane.bucket
leaving_leaves now lane [] = none_leave lane.bucket
leaving_leaves now lane (w ∷ ws) =
    front_leaves (waiting_size w) lane.bucket.tokens (nat_le (waiting_size w) lane.bucket.tokens) _ (none_left (with_rest lane (w ∷ ws))) lane.bucket refl
    (λ h. taken_leaves (treated lane.rule now w.since (waiting_bytes ws) lane.codel).0 w.packet _ lane.bucket h (leaving_leaves now (taken_front now w (with_rest lane ws)).1 ws))
    (none_leave lane.bucket)

first_leaves : (n : ℕ) (enough : Bool) (packet : Packet) (b : BucketState) (p q : Pushed) (x y : LaneState) → nat_le (packet_size packet) b.tokens ≡ enough
    → (packet_size packet ≤ b.tokens → LeavesWithin (pushed_bytes p) b x.bucket) → LeavesWithin (pushed_bytes q) b y.bucket
    → LeavesWithin (pushed_bytes (cond {A = Pushed × LaneState} enough (p, x) (q, y)).0) b (cond {A = Pushed × LaneState} enough (p, x) (q, y)).1.bucket
first_leaves n true packet b p q x y e h k = h (grind (arith, nat_tests))
first_leaves n false packet b p q x y e h k = k

behind_leaves : (room : Bool) (b : BucketState) (p q : Pushed) (x y : LaneState) → LeavesWithin (pushed_bytes p) b x.bucket → LeavesWithin (pushed_bytes q) b y.bucket
    → LeavesWithin (pushed_bytes (cond {A = Pushed × LaneState} room (p, x) (q, y)).0) b (cond {A = Pushed × LaneState} room (p, x) (q, y)).1.bucket
behind_leaves true b p q x y h k = h
behind_leaves false b p q x y h k = k

pushed_leaves : (now : Time) (packet : Packet) (lane : LaneState) (ws : List Waiting) → LeavesWithin (pushed_bytes (pushed_on now packet lane ws).0) lane.bucket (pushed_on now packet lane ws).1.bucket
pushed_leaves now packet lane [] =
    first_leaves 0 (nat_le (packet_size packet) lane.bucket.tokens) packet lane.bucket _ _ _ _ refl (λ h. spent_leaves (packet_size packet) lane.bucket h) (none_leave lane.bucket)
pushed_leaves now packet lane (w ∷ ws) = behind_leaves (nat_lt (length lane.waiting) 1000) lane.bucket _ _ _ _ (none_leave lane.bucket) (none_leave lane.bucket)

later_leaves : (now : Time) (b after : BucketState) (n : ℕ) → LeavesWithin n (bucket_at now.nanos b) after → LeavesWithin n b after
later_leaves now b after n h =
    with_bytes (0 + n) n b after (omega arith) (some_leave 0 n b (bucket_at now.nanos b) after (ticks_leave (now.nanos / millisecond - b.millis) b) h)

act_leaves : (act : LaneAct) (lane : LaneState) → LeavesWithin (bytes_left act lane) lane.bucket (lane_after act lane).bucket
act_leaves (Pushes now packet) lane =
    later_leaves now lane.bucket _ _ (pushed_leaves now packet (lane_at now lane) lane.waiting)
act_leaves (Releases now) lane =
    later_leaves now lane.bucket _ _ (leaving_leaves now (lane_at now lane) lane.waiting)

pub acts_leave : (acts : List LaneAct) (lane : LaneState) → LeavesWithin (all_bytes_left acts lane) lane.bucket (lane_after_all acts lane).bucket
acts_leave [] lane = none_leave lane.bucket
acts_leave (act ∷ acts) lane =
    some_leave (bytes_left act lane) (all_bytes_left acts (lane_after act lane)) lane.bucket (lane_after act lane).bucket (lane_after_all (act ∷ acts) lane).bucket (act_leaves act lane) (acts_leave acts (lane_after act lane))
