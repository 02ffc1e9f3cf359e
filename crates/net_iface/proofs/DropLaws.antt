-- when CoDel drops nothing
use Rattle.std.proofs.Common.{◌≡◌, ℕ, ◌+◌, ◌<◌, ◌≤◌, ◌⊎◌, inl, inr, Bool, true, false, cond, List, [], ◌∷◌, length, Option, Some, None, refl, sym, ap, ◌∙◌, subst, arith}
use Rattle.std.proofs.lemmas.Bool.Decides.{nat_tests}
use Rattle.std.specs.Prelude.{nat_le, nat_lt}
use Rattle.sim_base.specs.declared.packet.Packet.{Packet}
use Rattle.sim_base.specs.declared.time.Time.{Time}
use Rattle.sim_base.specs.Packet.{packet_size}
use Rattle.net_iface.specs.declared.codel.TheConstants.{INTERVAL}
use Rattle.net_iface.specs.declared.codel.CodelState.{CodelState}
use Rattle.net_iface.specs.declared.lane.Pushed.{Pushed}
use Rattle.net_iface.specs.declared.lane.QueueRule.{QueueRule}
use Rattle.net_iface.specs.declared.lane.QueueRule.TheVariants.{Fifo, Codel}
use Rattle.net_iface.specs.declared.lane.Waiting.{Waiting}
use Rattle.net_iface.specs.Codel.{is_good, ripened, drops_on, started, decided}
use Rattle.net_iface.specs.Lane.{LaneState, Left, lane_at, waiting_size, waiting_bytes, treated, with_rest, taken_front, none_left, with_taken, leaving, pushed_on}
use Rattle.net_iface.specs.Acts.{LaneAct, Pushes, Releases, time_of, lane_after, drops, IsSparedBy, IsSparedUnder, IsSpared, AreFrom, DropNothing}

-- no packet is ripe yet
abbrev IsUnripe : Time → Option Time → Type 0
IsUnripe now None = Unit {0}
IsUnripe now (Some above) = now.nanos < above.nanos

-- nothing is dropped at a time
abbrev IsQuiet : Time → CodelState → Type 0
IsQuiet now c = IsUnripe now c.above ⊎ ((c.dropping ≡ true) × (now.nanos < c.next.nanos))

abbrev IsQuietUnder : QueueRule → Time → CodelState → Type 0
IsQuietUnder Fifo now c = Unit {0}
IsQuietUnder Codel now c = IsQuiet now c

abbrev Leaves : Time → Bool × CodelState → Type 0
Leaves now t = (t.0 ≡ false) × IsQuiet now t.1

next_leaves : (now : Time) (c : CodelState) (early : Bool) (other : Bool × CodelState) → nat_lt now.nanos c.next.nanos ≡ early → c.dropping ≡ true → now.nanos < c.next.nanos
    → Leaves now (cond early (false, c) other)
next_leaves now c true other e d h = (refl, inr (d, h))
next_leaves now c false other e d h = absurd (grind (arith, nat_tests))

drop_leaves : (now : Time) (c : CodelState) (dropping : Bool) → c.dropping ≡ dropping → dropping ≡ true → now.nanos < c.next.nanos
    → Leaves now (cond dropping (drops_on now c) (started now c))
drop_leaves now c true e d h = next_leaves now c (nat_lt now.nanos c.next.nanos) _ refl e h
drop_leaves now c false e d h = absurd (cc)

ripe_leaves : (now : Time) (c : CodelState) (above : Time) (ripe : Bool) → nat_le above.nanos now.nanos ≡ ripe → c.above ≡ Some above → IsQuiet now (record c { above = Some above })
    → Leaves now (decided now ripe (record c { above = Some above }))
ripe_leaves now c above false e same q = (refl, inl (grind (arith, nat_tests)))
ripe_leaves now c above true e same (inl early) = absurd (grind (arith, nat_tests))
ripe_leaves now c above true e same (inr h) = drop_leaves now (record c { above = Some above }) c.dropping refl h.0 h.1

above_leaves : (now : Time) (c : CodelState) (above : Option Time) → c.above ≡ above → IsQuiet now (record c { above = above })
    → Leaves now (decided now (ripened now above).0 (record c { above = (ripened now above).1 }))
above_leaves now c None same q = (refl, inl (omega arith))
above_leaves now c (Some above) same q = ripe_leaves now c above (nat_le above.nanos now.nanos) refl same q

judged_leaves : (now : Time) (c : CodelState) (good : Bool) → IsQuiet now c
    → Leaves now (decided now (cond good (false, None) (ripened now c.above)).0 (record c { above = (cond good (false, None) (ripened now c.above)).1 }))
judged_leaves now c true q = (refl, inl tt)
judged_leaves now c false q = above_leaves now c c.above refl q

-- what is quiet lets packets leave, and stays quiet
quiet_leaves : (rule : QueueRule) (now since : Time) (left : ℕ) (c : CodelState) → IsQuietUnder rule now c
    → ((treated rule now since left c).0 ≡ false) × IsQuietUnder rule now (treated rule now since left c).1
quiet_leaves Fifo now since left c q = (refl, tt)
quiet_leaves Codel now since left c q = judged_leaves now c (is_good now since left) q

-- where a packet left it is quiet
next_quiet : (now : Time) (c : CodelState) (early : Bool) (other : CodelState) → nat_lt now.nanos c.next.nanos ≡ early → c.dropping ≡ true
    → (cond {A = Bool × CodelState} early (false, c) (true, other)).0 ≡ false → IsQuiet now (cond {A = Bool × CodelState} early (false, c) (true, other)).1
next_quiet now c true other e d h = inr (d, grind (arith, nat_tests))
next_quiet now c false other e d h = absurd (cc)

drop_quiet : (now : Time) (c : CodelState) (dropping : Bool) → c.dropping ≡ dropping
    → (cond dropping (drops_on now c) (started now c)).0 ≡ false → IsQuiet now (cond dropping (drops_on now c) (started now c)).1
drop_quiet now c true e h = next_quiet now c (nat_lt now.nanos c.next.nanos) _ refl e h
drop_quiet now c false e h = absurd (cc)

ripe_quiet : (now : Time) (c : CodelState) (above : Time) (ripe : Bool) → nat_le above.nanos now.nanos ≡ ripe
    → (decided now ripe (record c { above = Some above })).0 ≡ false → IsQuiet now (decided now ripe (record c { above = Some above })).1
ripe_quiet now c above false e h = inl (grind (arith, nat_tests))
ripe_quiet now c above true e h = drop_quiet now (record c { above = Some above }) c.dropping refl h

above_quiet : (now : Time) (c : CodelState) (above : Option Time)
    → (decided now (ripened now above).0 (record c { above = (ripened now above).1 })).0 ≡ false
    → IsQuiet now (decided now (ripened now above).0 (record c { above = (ripened now above).1 })).1
above_quiet now c None h = inl (omega arith)
above_quiet now c (Some above) h = ripe_quiet now c above (nat_le above.nanos now.nanos) refl h

judged_quiet : (now : Time) (c : CodelState) (good : Bool)
    → (decided now (cond good (false, None) (ripened now c.above)).0 (record c { above = (cond good (false, None) (ripened now c.above)).1 })).0 ≡ false
    → IsQuiet now (decided now (cond good (false, None) (ripened now c.above)).0 (record c { above = (cond good (false, None) (ripened now c.above)).1 })).1
judged_quiet now c true h = inl tt
judged_quiet now c false h = above_quiet now c c.above h

leaves_quiet : (rule : QueueRule) (now since : Time) (left : ℕ) (c : CodelState) → (treated rule now since left c).0 ≡ false
    → IsQuietUnder rule now (treated rule now since left c).1
leaves_quiet Fifo now since left c h = tt
leaves_quiet Codel now since left c h = judged_quiet now c (is_good now since left) h

quiet_step : (dropped enough : Bool) (packet : Packet) (rest other : Left) → dropped ≡ false → rest.dropped ≡ [] → other.dropped ≡ []
    → (cond enough (with_taken dropped packet rest) other).dropped ≡ []
quiet_step false true packet rest other d h o = h
quiet_step true true packet rest other d h o = absurd (cc)
quiet_step false false packet rest other d h o = o
quiet_step true false packet rest other d h o = o

quiet_release : (now : Time) (lane : LaneState) (ws : List Waiting) → IsQuietUnder lane.rule now lane.codel → (leaving now lane ws).dropped ≡ []
quiet_release now lane [] q = refl
quiet_release now lane (w ∷ ws) q =
    let told = quiet_leaves lane.rule now w.since (waiting_bytes ws) lane.codel q in
    quiet_step _ (nat_le (waiting_size w) lane.bucket.tokens) w.packet _ (none_left (with_rest lane (w ∷ ws))) told.0
    (quiet_release now (taken_front now w (with_rest lane ws)).1 ws told.1) refl

pub drops_first : (now : Time) (front : Waiting) (behind : LaneState) → (taken_front now front behind).0.dropped ≡ false
    → (leaving now (taken_front now front behind).1 behind.waiting).dropped ≡ []
drops_first now front behind h =
    quiet_release now (taken_front now front behind).1 behind.waiting (leaves_quiet behind.rule now front.since (waiting_bytes behind.waiting) behind.codel h)

spared_unripe : (from now : Time) (above : Option Time) → IsSparedBy from above → now.nanos < from.nanos + INTERVAL → IsUnripe now above
spared_unripe from now None s h = tt
spared_unripe from now (Some above) s h = omega arith

spared_quiet : (rule : QueueRule) (from now : Time) (c : CodelState) → IsSparedUnder rule from c.above → now.nanos < from.nanos + INTERVAL → IsQuietUnder rule now c
spared_quiet Fifo from now c s h = tt
spared_quiet Codel from now c s h = inl (spared_unripe from now c.above s h)

-- what a packet does to the time from which on others are ripe
above_next : (now : Time) (c : CodelState) (early : Bool) (other : CodelState) → other.above ≡ c.above → (cond {A = Bool × CodelState} early (false, c) (true, other)).1.above ≡ c.above
above_next now c true other e = refl
above_next now c false other e = e

above_drop : (now : Time) (c : CodelState) (dropping : Bool) → (cond dropping (drops_on now c) (started now c)).1.above ≡ c.above
above_drop now c true = above_next now c (nat_lt now.nanos c.next.nanos) _ refl
above_drop now c false = refl

above_decided : (now : Time) (ripe : Bool) (c : CodelState) → (decided now ripe c).1.above ≡ c.above
above_decided now false c = refl
above_decided now true c = above_drop now c c.dropping

ripened_spared : (from now : Time) (above : Option Time) → IsSparedBy from above → from.nanos ≤ now.nanos → IsSparedBy from (ripened now above).1
ripened_spared from now None s h = omega arith
ripened_spared from now (Some above) s h = s

judged_spared : (from now : Time) (above : Option Time) (good : Bool) → IsSparedBy from above → from.nanos ≤ now.nanos → IsSparedBy from (cond good (false, None) (ripened now above)).1
judged_spared from now above true s h = tt
judged_spared from now above false s h = ripened_spared from now above s h

treated_spared : (rule : QueueRule) (from now since : Time) (left : ℕ) (c : CodelState) → IsSparedUnder rule from c.above → from.nanos ≤ now.nanos
    → IsSparedUnder rule from (treated rule now since left c).1.above
treated_spared Fifo from now since left c s h = tt
treated_spared Codel from now since left c s h =
    let j = cond (is_good now since left) (false, None) (ripened now c.above) in
    subst (IsSparedBy from) (sym (above_decided now j.0 (record c { above = j.1 }))) (judged_spared from now c.above (is_good now since left) s h)

pub good_spared : (rule : QueueRule) (now since : Time) (left : ℕ) (c : CodelState) → is_good now since left ≡ true → IsSparedUnder rule now (treated rule now since left c).1.above
good_spared Fifo now since left c good = tt
good_spared Codel now since left c good =
    let j = cond (is_good now since left) (false, None) (ripened now c.above) in
    let none : (cond true (false, None) (ripened now c.above)).1 ≡ j.1 = ap (λ g. (cond g (false, None) (ripened now c.above)).1) (sym good) in
    subst (IsSparedBy now) (none ∙ sym (above_decided now j.0 (record c { above = j.1 }))) tt

spared_step : (from : Time) (rule : QueueRule) (dropped enough : Bool) (packet : Packet) (rest other : Left) → IsSpared from rest.lane → IsSpared from other.lane
    → IsSpared from (cond enough (with_taken dropped packet rest) other).lane
spared_step from rule false true packet rest other s o = s
spared_step from rule true true packet rest other s o = s
spared_step from rule dropped false packet rest other s o = o

leaving_spared : (from now : Time) (lane : LaneState) (ws : List Waiting) → from.nanos ≤ now.nanos → IsSpared from lane → IsSpared from (leaving now lane ws).lane
leaving_spared from now lane [] h s = s
leaving_spared from now lane (w ∷ ws) h s =
    spared_step from lane.rule (taken_front now w (with_rest lane ws)).0.dropped (nat_le (waiting_size w) lane.bucket.tokens) w.packet
    (leaving now (taken_front now w (with_rest lane ws)).1 ws) (none_left (with_rest lane (w ∷ ws)))
    (leaving_spared from now (taken_front now w (with_rest lane ws)).1 ws h (treated_spared lane.rule from now w.since (waiting_bytes ws) lane.codel s h)) s

either_spared : (from : Time) (enough : Bool) (p q : Pushed) (a b : LaneState) → IsSpared from a → IsSpared from b → IsSpared from (cond {A = Pushed × LaneState} enough (p, a) (q, b)).1
either_spared from true p q a b h k = h
either_spared from false p q a b h k = k

pushed_spared : (from now : Time) (packet : Packet) (lane : LaneState) (ws : List Waiting) → from.nanos ≤ now.nanos → IsSpared from lane → IsSpared from (pushed_on now packet lane ws).1
pushed_spared from now packet lane [] h s =
    either_spared from (nat_le (packet_size packet) lane.bucket.tokens) _ _ _ _ (treated_spared lane.rule from now now 0 lane.codel s h) s
pushed_spared from now packet lane (w ∷ ws) h s = either_spared from (nat_lt (length lane.waiting) 1000) _ _ _ _ s s

act_spared : (from : Time) (act : LaneAct) (lane : LaneState) → from.nanos ≤ (time_of act).nanos → IsSpared from lane → IsSpared from (lane_after act lane)
act_spared from (Pushes now packet) lane h s = pushed_spared from now packet (lane_at now lane) lane.waiting h s
act_spared from (Releases now) lane h s = leaving_spared from now (lane_at now lane) lane.waiting h s

act_drops : (from : Time) (act : LaneAct) (lane : LaneState) → IsSpared from lane → (time_of act).nanos < from.nanos + INTERVAL → drops act lane ≡ []
act_drops from (Pushes now packet) lane s early = refl
act_drops from (Releases now) lane s early = quiet_release now (lane_at now lane) lane.waiting (spared_quiet lane.rule from now lane.codel s early)

pub spared : (from : Time) (acts : List LaneAct) (lane : LaneState) → IsSpared from lane → AreFrom from acts → DropNothing from acts lane
spared from [] lane s h = tt
spared from (act ∷ acts) lane s h = (act_drops from act lane s, spared from acts (lane_after act lane) (act_spared from act lane h.0 s) h.1)

after_good : (now : Time) (front : Waiting) (behind : LaneState) → is_good now front.since (waiting_bytes behind.waiting) ≡ true → IsSpared now (taken_front now front behind).1
after_good now front behind good = good_spared behind.rule now front.since (waiting_bytes behind.waiting) behind.codel good

pub good_release : (now : Time) (front : Waiting) (behind : LaneState) → is_good now front.since (waiting_bytes behind.waiting) ≡ true
    → (leaving now (taken_front now front behind).1 behind.waiting).dropped ≡ []
good_release now front behind good =
    let next = (taken_front now front behind).1 in
    quiet_release now next behind.waiting (spared_quiet next.rule now now next.codel (after_good now front behind good) (omega arith))

pub good_follows : (now : Time) (front : Waiting) (behind : LaneState) (acts : List LaneAct) → is_good now front.since (waiting_bytes behind.waiting) ≡ true → AreFrom now acts
    → DropNothing now acts (leaving now (taken_front now front behind).1 behind.waiting).lane
good_follows now front behind acts good h =
    spared now acts _ (leaving_spared now now (taken_front now front behind).1 behind.waiting (omega arith) (after_good now front behind good)) h
