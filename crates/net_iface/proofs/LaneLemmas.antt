-- lanes, one packet after another
use Rattle.std.proofs.Common.{◌≡◌, ℕ, ◌+◌, ◌*◌, ◌<◌, ◌≤◌, Bool, true, false, cond, List, [], ◌∷◌, ◌++◌, length, Option, Some, None, option_map, slice_get, refl, sym, ap, ◌∙◌, arith, append-nil, append_assoc}
use Rattle.std.proofs.lemmas.Bool.Decides.{nat_tests}
use Rattle.std.proofs.lemmas.List.{length_push}
use Rattle.std.proofs.lemmas.List.Sums.{sum_by-cons, sum_by_push}
use Rattle.std.specs.Prelude.{nat_le}
use Rattle.sim_base.specs.declared.packet.Packet.{Packet}
use Rattle.sim_base.specs.declared.time.Time.{Time}
use Rattle.sim_base.specs.Packet.{max_packet}
use Rattle.net_iface.specs.declared.codel.CodelState.{CodelState}
use Rattle.net_iface.specs.declared.lane.Taken.{Taken}
use Rattle.net_iface.specs.declared.lane.Waiting.{Waiting}
use Rattle.net_iface.specs.Bucket.{BucketState, paid}
use Rattle.net_iface.specs.Lane.{LaneState, AllFit, IsLane, Left, waiting_size, waiting_bytes, treated, with_rest, taken_as, taken_front, none_left, with_taken, with_first, leaving}
use Rattle.net_iface.specs.inside.Lane.{popped, first_of, front_taken}

AllFit_push : (ws : List Waiting) (w : Waiting) → AllFit ws → waiting_size w ≤ max_packet → AllFit (ws ++ w ∷ [])
AllFit_push [] w h small = (small, tt)
AllFit_push (x ∷ ws) w h small = (h.0, AllFit_push ws w h.1 small)

pub bytes_bound : (ws : List Waiting) → AllFit ws → waiting_bytes ws ≤ max_packet * length ws
bytes_bound [] h = omega arith
bytes_bound (w ∷ ws) h = rw (sum_by-cons waiting_size w ws) (omega (arith, bytes_bound ws h.1, h.0))

-- there is room for the bytes of one more
pub bytes_fit : (ws : List Waiting) (bytes more : ℕ) → IsLane ws bytes → more ≤ max_packet → bytes + more ≤ 1501500
bytes_fit ws bytes more h small = omega (arith, bytes_bound ws h.fit, h.few, h.told)

pub IsLane_push : (ws : List Waiting) (w : Waiting) (bytes : ℕ) → IsLane ws bytes → waiting_size w ≤ max_packet → length ws < 1000
    → IsLane (ws ++ w ∷ []) (bytes + waiting_size w)
IsLane_push ws w bytes h small room = record {
  fit = AllFit_push ws w h.fit small;
  few = omega (arith, length_push ws w);
  told = ap (λ n. n + waiting_size w) h.told ∙ sym (sum_by_push waiting_size ws w);
}

-- the front's bytes are among those that wait
pub front_within : (ws : List Waiting) (bytes n : ℕ) → IsLane ws bytes → Some n ≡ option_map waiting_size (slice_get ws 0) → n ≤ bytes
front_within [] bytes n h e = absurd cc
front_within (w ∷ ws) bytes n h e =
    let same : n ≡ waiting_size w = cc in
    omega (arith, h.told, sum_by-cons waiting_size w ws)

front_enough : (T : Option Taken × LaneState) (other : Option Taken × LaneState) (enough : Bool) (n tokens : ℕ) → nat_le n tokens ≡ enough → n ≤ tokens → T ≡ cond enough T other
front_enough T other true n tokens e within = refl
front_enough T other false n tokens e within = absurd (grind (arith, nat_tests))

pub front_taken_is : (now : Time) (l : LaneState) (ws : List Waiting) (n : ℕ) (front : Waiting) (p q : LaneState) (dropped : Bool) (left : ℕ) (b : BucketState)
    → Some n ≡ option_map waiting_size (slice_get ws 0) → n ≤ l.bucket.tokens
    → ◌≡◌ {A = Option Waiting × LaneState} (Some front, p) (popped l ws)
    → left ≡ waiting_bytes p.waiting
    → ◌≡◌ {A = Bool × CodelState} (dropped, q.codel) (treated p.rule now front.since left p.codel)
    → q ≡ record p { codel = q.codel } → b ≡ paid dropped n q.bucket
    → ◌≡◌ {A = Option Taken × LaneState} (Some (record { packet = front.packet; dropped = dropped }), record q { bucket = b }) (front_taken now l ws)
front_taken_is now l [] n front p q dropped left b size enough out told verdict rest pays = absurd cc
front_taken_is now l (w ∷ ws) n front p q dropped left b size enough out told verdict rest pays =
    let given : Some front ≡ Some w = ap (λ (t : Option Waiting × LaneState). t.0) out in
    let same : front ≡ w = cc in
    let stays : p ≡ with_rest l ws = ap (λ (t : Option Waiting × LaneState). t.1) out in
    let big : n ≡ waiting_size w = cc in
    let T : Option Taken × LaneState = first_of (taken_front now w (with_rest l ws)) in
    ap (λ (x : LaneState). (Some (record { packet = front.packet; dropped = dropped }), record x { bucket = b })) rest
    ∙ ap (λ (y : BucketState). (Some (record { packet = front.packet; dropped = dropped }), record p { codel = q.codel; bucket = y }))
    (pays ∙ ap (λ k. paid dropped k q.bucket) (big ∙ sym (ap waiting_size same)) ∙ ap (λ (x : LaneState). paid dropped (waiting_size front) x.bucket) rest)
    ∙ ap (λ (v : Bool × CodelState). first_of (taken_as front v p)) (verdict ∙ ap (λ k. treated p.rule now front.since k p.codel) told)
    ∙ (λ i. first_of (taken_front now (same i) (stays i)))
    ∙ front_enough T _ (nat_le (waiting_size w) l.bucket.tokens) (waiting_size w) l.bucket.tokens refl (omega arith)

-- what a release gives after the front was asked for
abbrev pub follow : Time → Option Taken → LaneState → Left
follow now None lane = none_left lane
follow now (Some t) lane = with_first t (leaving now lane lane.waiting)

abbrev followed : Time → Option Taken × LaneState → Left
followed now t = follow now t.0 t.1

leaving_step : (now : Time) (lane : LaneState) (w : Waiting) (ws : List Waiting) (test : Bool)
    → ◌≡◌ {A = Left} (cond test (with_first (taken_front now w (with_rest lane ws)).0 (leaving now (taken_front now w (with_rest lane ws)).1 ws)) (none_left (with_rest lane (w ∷ ws))))
    (followed now (cond test (first_of (taken_front now w (with_rest lane ws))) (None, with_rest lane (w ∷ ws))))
leaving_step now lane w ws true = refl
leaving_step now lane w ws false = refl

leaving_follow : (now : Time) (lane : LaneState) (ws : List Waiting) → leaving now lane ws ≡ followed now (front_taken now lane ws)
leaving_follow now lane [] = refl
leaving_follow now lane (w ∷ ws) = leaving_step now lane w ws (nat_le (waiting_size w) lane.bucket.tokens)

-- behind packets that left and were dropped before
abbrev pub behind_first : List Packet → List Packet → Left → Left
behind_first ps ds left = record left { packets = ps ++ left.packets; dropped = ds ++ left.dropped }

-- one more was taken
pub leaving_more : (now : Time) (ps ds : List Packet) (l : LaneState) (ws : List Waiting) (t : Taken) (next : LaneState)
    → ◌≡◌ {A = Option Taken × LaneState} (Some t, next) (front_taken now l ws)
    → behind_first ps ds (with_first t (leaving now next next.waiting)) ≡ behind_first ps ds (leaving now l ws)
leaving_more now ps ds l ws t next taken = ap (behind_first ps ds) (ap (followed now) taken ∙ sym (leaving_follow now l ws))

pub behind_leaving : (ps ds : List Packet) (p : Packet) (left : Left) → behind_first (ps ++ p ∷ []) ds left ≡ behind_first ps ds (with_taken false p left)
behind_leaving ps ds p left = ap (λ xs. record left { packets = xs; dropped = ds ++ left.dropped }) (append_assoc ps (p ∷ []) left.packets)

-- no other is taken where the front stays
pub leaving_last : (now : Time) (ps ds : List Packet) (l : LaneState) (ws : List Waiting) (front : Option Taken) (next : LaneState) (whole : Left)
    → ◌≡◌ {A = Option Taken × LaneState} (front, next) (front_taken now l ws) → front ≡ None → behind_first ps ds (leaving now l ws) ≡ whole
    → ◌≡◌ {A = Left} (record { packets = ps; dropped = ds; lane = next }) whole
leaving_last now ps ds l ws front next whole taken none e =
    (λ i. record { packets = sym (append-nil ps) i; dropped = sym (append-nil ds) i; lane = next })
    ∙ ap (λ (o : Option Taken). behind_first ps ds (follow now o next)) (sym none)
    ∙ ap (λ (t : Option Taken × LaneState). behind_first ps ds (followed now t)) taken
    ∙ ap (behind_first ps ds) (sym (leaving_follow now l ws))
    ∙ e
