-- A host that is run up to a time fires as the law of rounds has it.
use Rattle.std.proofs.Common.{◌≡◌, ℕ, ◌+◌, ◌-◌, ◌^◌, ◌<◌, ◌≤◌, inl, inr, Bool, true, false, ◌==◌, ◌||◌, List, [], ◌∷◌, ◌++◌, All, Some, map, filter, length, nat_lt, refl, sym, ap, subst, ◌∙◌, arith, IsPermutation, append_assoc, append-nil, length-append}
use Rattle.std.specs.Prelude.{if◌then◌else◌, not}
use Rattle.std.proofs.lemmas.Bool.Decides.{Decides-eqb, nat_tests}
use Rattle.std.proofs.lemmas.List.Sorted.{All-permutation, IsPermutation-sym, IsPermutation-trans, IsPermutation-append_left, IsPermutation-refl, length_permutation}
use Rattle.sim_base.specs.Units.{latest_time}
use Rattle.sim_base.specs.declared.event.Event.{Event}
use Rattle.sim_base.specs.declared.event.Parcel.{Parcel}
use Rattle.sim_base.specs.declared.event.What.{What}
use Rattle.sim_base.specs.declared.event.What.TheVariants as what
use Rattle.sim_base.specs.declared.key.Key.{Key}
use Rattle.sim_base.specs.declared.time.Time.{Time}
use Rattle.file_calls.specs.declared.task.Output.{Output}
use Rattle.host_state.specs.declared.host.Body.{Body}
use Rattle.host_state.specs.declared.host.Host.{Host}
use Rattle.host_link.specs.declared.line.Line.{Line}
use Rattle.host_link.specs.declared.line.Logged.{Logged}
use Rattle.host_link.specs.Net.{Net}
use Rattle.host_link.specs.declared.outbox.Outbox.{Outbox}
use Rattle.host_state.specs.Fire.{fire, wrote}
use Rattle.host_state.specs.Fits.{model, fires_before_stop, IsHostOf, IsEventOf}
use Rattle.host_link.specs.Home.{home, home_of}
use Rattle.host_state.specs.HostRecord.{HostRecord}
use Rattle.host_link.specs.Handing.{with_events}
use Rattle.host_state.specs.HostStands.{Stands, Fires}
use Rattle.host_link.specs.Link.{LinkState}
use Rattle.host_link.specs.Outbox.{own_events, parcels_of, posted, logged}
use Rattle.host_link.specs.Parcels.{parcel_event}
use Rattle.host_state.specs.Running.{Owns, MayRun, RunsUntil, kept_line}
use Rattle.host_state.specs.StandsFor.{BodyStands}
use Rattle.host_state.proofs.Queues.{reversed, begun, first_taken, ordered_apart}
use Rattle.host_state.proofs.Simulations.{fires_before_stop_is, firings_fit}
use Rattle.event_order.specs.Events.{IsBefore, IsOrdered}
use Rattle.world_order.specs.EventOrder.{take_least, copies, same_key, AreApart}
use Rattle.world_order.specs.Model.{Fired}
use Rattle.world_order.specs.Premises.{IsFit}
use Rattle.world_order.specs.Round.{events_at}
use Rattle.world_order.specs.Steps.{has_due}
use Rattle.world_order.specs.WholeTurns.{Ran, unfired, fired_first, RunsTo, rests, goes}
use Rattle.world_order.specs.World as order
use Rattle.world_order.proofs.Apart.{one_if, apart_append}
use Rattle.world_order.proofs.Firings.{numbered_source, numbered_from, numbered_below, numbered_apart}
use Rattle.world_order.proofs.Keys.{due_from}
use Rattle.world_order.proofs.Members.{IsIn, Each, Each_from_All, All_from_Each, Each-append, IsIn_filter_from}
use Rattle.world_order.proofs.Orders.{take_least_permutation}

-- ---- what was made, in two parts

-- the events that fire at other hosts
abbrev pub others : Net → ℕ → List Event → List Event
others net n es = filter (λ (e : Event). not (home net e == n)) es

own_by : (b : Bool) (e : Event) (xs ys : List Event) → xs ≡ ys → (if b then e ∷ xs else xs) ≡ (if b then e ∷ ys else ys)
own_by true e xs ys same = ap (λ (l : List Event). e ∷ l) same
own_by false e xs ys same = same

own_at : (net : Net) (n : ℕ) (es : List Event) → own_events net n es ≡ events_at (model net) n es
own_at net n [] = refl
own_at net n (e ∷ es) = own_by (home net e == n) e (own_events net n es) (events_at (model net) n es) (own_at net n es)

copies_by : (b c : Bool) (n m : ℕ) → n ≤ m → (if b then one_if c + n else n) ≤ one_if c + m
copies_by true c n m less = omega arith
copies_by false c n m less = omega arith

copies_if : (k : Key) (b : Bool) (e : Event) (es : List Event) → copies k (if b then e ∷ es else es) ≡ (if b then one_if (same_key k e.key) + copies k es else copies k es)
copies_if k true e es = refl
copies_if k false e es = refl

own_copies : (net : Net) (n : ℕ) (k : Key) (es : List Event) → copies k (own_events net n es) ≤ copies k es
own_copies net n k [] = omega arith
own_copies net n k (e ∷ es) =
    let less = copies_by (home net e == n) (same_key k e.key) (copies k (own_events net n es)) (copies k es) (own_copies net n k es) in
    let is = copies_if k (home net e == n) e (own_events net n es) in
    omega arith

fewer_by : (b : Bool) (e : Event) (xs ys : List Event) → length xs ≤ length ys → length (if b then e ∷ xs else xs) ≤ length (e ∷ ys)
fewer_by true e xs ys less = omega arith
fewer_by false e xs ys less = omega arith

own_fewer : (net : Net) (n : ℕ) (es : List Event) → length (own_events net n es) ≤ length es
own_fewer net n [] = omega arith
own_fewer net n (e ∷ es) = fewer_by (home net e == n) e (own_events net n es) es (own_fewer net n es)

-- an event of the host that fires elsewhere is a packet
pub packet_of : (net : Net) (number source : ℕ) (key : Key) (w : What) (rest : List Parcel) → source ≡ number → (home_of net source w == number) ≡ false
    → map parcel_event (posted (home_of net source w) key w rest) ≡ record { key = key; what = w } ∷ map parcel_event rest
packet_of net number source key (what.Packet packet) rest own away = refl
packet_of net number source key (what.Start p) rest own away = absurd (let e : (source == number) ≡ true = (Decides-eqb source number).1 own in let f : true ≡ false = sym e ∙ away in cc)
packet_of net number source key (what.Go p) rest own away = absurd (let e : (source == number) ≡ true = (Decides-eqb source number).1 own in let f : true ≡ false = sym e ∙ away in cc)
packet_of net number source key (what.Shutdown p) rest own away = absurd (let e : (source == number) ≡ true = (Decides-eqb source number).1 own in let f : true ≡ false = sym e ∙ away in cc)
packet_of net number source key (what.Alarm target serial) rest own away = absurd (let e : (source == number) ≡ true = (Decides-eqb source number).1 own in let f : true ≡ false = sym e ∙ away in cc)
packet_of net number source key (what.Loop packet) rest own away = absurd (let e : (source == number) ≡ true = (Decides-eqb source number).1 own in let f : true ≡ false = sym e ∙ away in cc)
packet_of net number source key what.Up rest own away = absurd (let e : (source == number) ≡ true = (Decides-eqb source number).1 own in let f : true ≡ false = sym e ∙ away in cc)
packet_of net number source key what.Down rest own away = absurd (let e : (source == number) ≡ true = (Decides-eqb source number).1 own in let f : true ≡ false = sym e ∙ away in cc)

posted_append : (to : ℕ) (key : Key) (w : What) (xs ys : List Parcel) → posted to key w (xs ++ ys) ≡ posted to key w xs ++ ys
posted_append to key (what.Packet packet) xs ys = refl
posted_append to key (what.Start p) xs ys = refl
posted_append to key (what.Go p) xs ys = refl
posted_append to key (what.Shutdown p) xs ys = refl
posted_append to key (what.Alarm target serial) xs ys = refl
posted_append to key (what.Loop packet) xs ys = refl
posted_append to key what.Up xs ys = refl
posted_append to key what.Down xs ys = refl

append_by : (b : Bool) (to : ℕ) (key : Key) (w : What) (zs xs ys : List Parcel) → zs ≡ xs ++ ys → (if b then zs else posted to key w zs) ≡ (if b then xs else posted to key w xs) ++ ys
append_by true to key w zs xs ys same = same
append_by false to key w zs xs ys same = ap (posted to key w) same ∙ posted_append to key w xs ys

parcels_append : (net : Net) (n : ℕ) (es fs : List Event) → parcels_of net n (es ++ fs) ≡ parcels_of net n es ++ parcels_of net n fs
parcels_append net n [] fs = refl
parcels_append net n (e ∷ es) fs =
    append_by (home net e == n) (home net e) e.key e.what (parcels_of net n (es ++ fs)) (parcels_of net n es) (parcels_of net n fs) (parcels_append net n es fs)

others_by : (net : Net) (n : ℕ) (e : Event) (es : List Event) (b : Bool) → (home net e == n) ≡ b → parcels_of net n (others net n es) ≡ parcels_of net n es
    → parcels_of net n (if not b then e ∷ others net n es else others net n es) ≡ (if b then parcels_of net n es else posted (home net e) e.key e.what (parcels_of net n es))
others_by net n e es true is same = same
others_by net n e es false is same =
    ap (λ (t : Bool). if t then parcels_of net n (others net n es) else posted (home net e) e.key e.what (parcels_of net n (others net n es))) is
    ∙ ap (posted (home net e) e.key e.what) same

parcels_others : (net : Net) (n : ℕ) (es : List Event) → parcels_of net n (others net n es) ≡ parcels_of net n es
parcels_others net n [] = refl
parcels_others net n (e ∷ es) = others_by net n e es (home net e == n) refl (parcels_others net n es)

packets_by : (net : Net) (n : ℕ) (e : Event) (es : List Event) (b : Bool) → (home net e == n) ≡ b → e.key.source.index ≡ n → map parcel_event (parcels_of net n es) ≡ others net n es
    → map parcel_event (if b then parcels_of net n es else posted (home net e) e.key e.what (parcels_of net n es)) ≡ (if not b then e ∷ others net n es else others net n es)
packets_by net n e es true is own same = same
packets_by net n e es false is own same =
    packet_of net n e.key.source.index e.key e.what (parcels_of net n es) own is ∙ ap (λ (l : List Event). e ∷ l) same

packets_of : (net : Net) (n : ℕ) (es : List Event) → Each (λ (g : Event). g.key.source.index ≡ n) es → map parcel_event (parcels_of net n es) ≡ others net n es
packets_of net n [] own = refl
packets_of net n (e ∷ es) own = packets_by net n e es (home net e == n) refl (own e (inl refl)) (packets_of net n es (λ g h. own g (inr h)))

-- ---- one turn

module _ (net : Net) (early : net.stop.nanos ≤ latest_time) (h : HostRecord) (e : Event) (rest : List Event) (made_none : h.link.made ≡ []) (lines_none : h.link.lines ≡ [])
    (owns : Owns net h.link (e ∷ rest)) (ordered : IsOrdered (e ∷ rest)) (due : e.key.due.nanos < net.stop.nanos) where
  abbrev f : Fired HostRecord Line
  f = fire net h e

  abbrev own : List Event
  own = own_events net h.link.number f.made

  home_is : home net e ≡ h.link.number
  home_is = Each_from_All (λ (x : Event). home net x ≡ h.link.number) (e ∷ rest) owns.home e (inl refl)

  clock_is : h.link.time.nanos ≤ e.key.due.nanos
  clock_is = Each_from_All (λ (x : Event). h.link.time.nanos ≤ x.key.due.nanos) (e ∷ rest) owns.clock e (inl refl)

  good : IsHostOf net (home net e) h
  good = record { number = sym home_is; within = subst (λ (i : ℕ). i < length net.known.book) (sym home_is) owns.within; limited = owns.limited; up = owns.up; down = owns.down; made = made_none; lines = lines_none }

  fits : IsFit (model net) (Some 0) (2 ^ 64 - 1) (IsHostOf net) (IsEventOf net) h e f
  fits =
      subst (λ (g : Fired HostRecord Line). IsFit (model net) (Some 0) (2 ^ 64 - 1) (IsHostOf net) (IsEventOf net) h e g) (fires_before_stop_is net h e due)
      (firings_fit net (Some 0) (λ i j latency reliability apart route. omega arith) (omega arith) early h e good
      (Each_from_All (IsEventOf net) (e ∷ rest) owns.events e (inl refl)) clock_is)

  sources : Each (λ (g : Event). g.key.source.index ≡ h.link.number) f.made
  sources x is = numbered_source (home net e) h.link.next f.made fits.numbered x is ∙ home_is

  in_made : (x : Event) → IsIn x own → IsIn x f.made × (home net x ≡ h.link.number)
  in_made x is =
      let there = IsIn_filter_from (λ (g : Event). home net g == h.link.number) x f.made (subst (λ (l : List Event). IsIn x l) (own_at net h.link.number f.made) is) in
      (there.0, (Decides-eqb (home net x) h.link.number).0 there.1)

  own_apart : AreApart own
  own_apart k = let less = own_copies net h.link.number k f.made in let most = numbered_apart (home net e) h.link.next f.made fits.numbered k in omega arith

  pub all_apart : AreApart (rest ++ own)
  all_apart =
      apart_append rest own (ordered_apart rest ordered.1) own_apart
      (λ x there g in_own same.
      let mine = in_made g in_own in
      let source : x.key.source.index ≡ h.link.number = ap (λ (k : Key). k.source.index) same ∙ sources g mine.0 in
      let below : x.key.number < h.link.next =
      Each_from_All (λ (y : Event). y.key.source.index ≡ h.link.number → y.key.number < h.link.next) (e ∷ rest) owns.below x (inr there) source in
      let from = numbered_from (home net e) h.link.next f.made fits.numbered g mine.0 in
      let number : x.key.number ≡ g.key.number = ap (λ (k : Key). k.number) same in
      absurd (omega arith))

  pub moved : IsPermutation (with_events own rest) (rest ++ own)
  moved = begun own rest all_apart

  number_is : f.host.link.number ≡ h.link.number
  number_is = fits.host.number ∙ home_is

  holds : (P : Event → Type 0) → Each P rest → Each P own → All P (with_events own rest)
  holds P old new =
      All-permutation P (rest ++ own) (with_events own rest) (IsPermutation-sym (with_events own rest) (rest ++ own) moved) (All_from_Each P (rest ++ own) (Each-append P rest own old new))

  pub owns_after : Owns net f.host.link (with_events own rest)
  owns_after = record {
    within = subst (λ (i : ℕ). i < length net.known.book) (sym number_is) owns.within;
    limited = fits.host.limited;
    up = fits.host.up;
    down = fits.host.down;
    events = holds (IsEventOf net) (λ x there. Each_from_All (IsEventOf net) (e ∷ rest) owns.events x (inr there))
        (λ x there. Each_from_All (IsEventOf net) f.made fits.events x (in_made x there).0);
    home = holds (λ (x : Event). home net x ≡ f.host.link.number)
        (λ x there. Each_from_All (λ (y : Event). home net y ≡ h.link.number) (e ∷ rest) owns.home x (inr there) ∙ sym number_is)
        (λ x there. (in_made x there).1 ∙ sym number_is);
    clock = holds (λ (x : Event). f.host.link.time.nanos ≤ x.key.due.nanos)
        (λ x there. (let c = fits.clock in
        let first : e.key.due.nanos ≤ x.key.due.nanos = due_from x.key e.key (reversed e.key x.key (Each_from_All (λ (y : Event). IsBefore e y) rest ordered.0 x there)) in omega arith))
        (λ x there. (let c = fits.clock in
        let l = Each_from_All (λ (g : Event). e.key.due.nanos < g.key.due.nanos) f.made fits.later x (in_made x there).0 in omega arith));
    below = holds (λ (x : Event). x.key.source.index ≡ f.host.link.number → x.key.number < f.host.link.next)
        (λ x there source. (let counted : f.host.link.next ≡ h.link.next + length f.made = fits.counted in
        let b = Each_from_All (λ (y : Event). y.key.source.index ≡ h.link.number → y.key.number < h.link.next) (e ∷ rest) owns.below x (inr there) (source ∙ number_is) in omega arith))
        (λ x there source. (let counted : f.host.link.next ≡ h.link.next + length f.made = fits.counted in
        let b = numbered_below (home net e) h.link.next f.made fits.numbered x (in_made x there).0 in omega arith));
  }

  -- the events that wait and the numbers that are left fall
  pub falls : length (with_events own rest) + ((2 ^ 64 - 1) - f.host.link.next) < length (e ∷ rest) + ((2 ^ 64 - 1) - h.link.next)
  falls =
      let counted : f.host.link.next ≡ h.link.next + length f.made = fits.counted in
      let limited : f.host.link.next ≤ 2 ^ 64 - 1 = fits.limited in
      let some = own_fewer net h.link.number f.made in
      let both = length-append rest own in
      let long = length_permutation (with_events own rest) (rest ++ own) moved in
      omega arith

  pub made_packets : map parcel_event (parcels_of net h.link.number f.made) ≡ others net h.link.number f.made
  made_packets = packets_of net h.link.number f.made sources

  pub number_after : f.host.link.number ≡ h.link.number
  number_after = number_is

  -- the turn is one of the run
  pub turn_goes : (end : ℕ) (queue rest' : List Event) (ran : Ran HostRecord Line) → take_least queue ≡ Some (e, rest') → e.key.due.nanos < end
      → RunsTo (model net) h.link.number end f.host (rest' ++ events_at (model net) h.link.number f.made) ran
      → RunsTo (model net) h.link.number end h queue (fired_first (model net) h.link.number e f ran)
  turn_goes end queue rest' ran taken before more =
      let is : fires_before_stop net h e ≡ f = fires_before_stop_is net h e due in
      subst (λ (g : Fired HostRecord Line). RunsTo (model net) h.link.number end h queue (fired_first (model net) h.link.number e g ran)) is
      (goes h queue e rest' ran taken before
      (subst (λ (g : Fired HostRecord Line). RunsTo (model net) h.link.number end g.host (rest' ++ events_at (model net) h.link.number g.made) ran) (sym is) more))

-- ---- the run so far

-- what was done in front of the rest of a run
abbrev pub behind : List Event → List (order.Logged Line) → List Event → Ran HostRecord Line → Ran HostRecord Line
behind packets lines fired ran = record { host = ran.host; queue = ran.queue; packets = packets ++ ran.packets; lines = lines ++ ran.lines; fired = fired ++ ran.fired }

-- a host that stood for a record has come so far: it stands for another one, whose run is the rest of the first one's
pub record SoFar (net : Net) (end : Time) (h0 : HostRecord) (queue0 : List Event) (c : Host) (before after : Outbox) : Type 0 where
  pub host : HostRecord
  pub queue : List Event
  pub packets : List Event
  pub lines : List (order.Logged Line)
  pub fired : List Event
  pub wrote : List Output
  pub stands : Stands c host
  pub number : host.link.number ≡ h0.link.number
  pub same : IsPermutation c.queue queue
  pub leads : (ran : Ran HostRecord Line) → RunsTo (model net) h0.link.number end.nanos host queue ran → RunsTo (model net) h0.link.number end.nanos h0 queue0 (behind packets lines fired ran)
  pub parcels : after.parcels.items ≡ before.parcels.items ++ parcels_of net h0.link.number packets
  pub posts : map parcel_event (parcels_of net h0.link.number packets) ≡ packets
  pub logs : after.lines.items ≡ before.lines.items ++ map kept_line lines
  pub written : host.written ≡ h0.written ++ wrote
  pub outputs : after.outputs.items ≡ before.outputs.items ++ wrote

pub so_far_start : (net : Net) (end : Time) (c : Host) (out : Outbox) (h : HostRecord) → Stands c h → SoFar net end h c.queue c out out
so_far_start net end c out h stands = record {
  host = h;
  queue = c.queue;
  packets = [];
  lines = [];
  fired = [];
  wrote = [];
  stands = stands;
  number = refl;
  same = IsPermutation-refl c.queue;
  leads = λ ran runs. runs;
  parcels = sym (append-nil out.parcels.items);
  posts = refl;
  logs = sym (append-nil out.lines.items);
  written = sym (append-nil h.written);
  outputs = sym (append-nil out.outputs.items);
}

pub stands_same : (c d : Host) (h : HostRecord) → d.body ≡ c.body → Stands c h → Stands d h
stands_same c d h is s = record { body = subst (λ (b : Body). BodyStands b h) (sym is) s.body; made = s.made; lines = s.lines; outputs = s.outputs }

-- a host that stands for two records has one link
pub owns_same : (net : Net) (c : Host) (g h : HostRecord) (queue : List Event) → Stands c g → Stands c h → Owns net g.link queue → Owns net h.link queue
owns_same net c g h queue s t owns = subst (λ (l : LinkState). Owns net l queue) (sym s.body.link ∙ t.body.link) owns

map-append : {X Y : Type 0} (f : X → Y) (xs ys : List X) → map f (xs ++ ys) ≡ map f xs ++ map f ys
map-append f [] ys = refl
map-append f (x ∷ xs) ys = ap (λ l. f x ∷ l) (map-append f xs ys)

kept_logged : (key : Key) (ls : List Line) → map kept_line (order.logged key ls) ≡ map (logged key) ls
kept_logged key [] = refl
kept_logged key (l ∷ ls) = ap (λ (k : List Logged). logged key l ∷ k) (kept_logged key ls)

-- what is added twice
twice : {X : Type 0} (a b c d e : List X) → b ≡ a ++ d → c ≡ b ++ e → c ≡ a ++ (d ++ e)
twice a b c d e first second = second ∙ ap (λ l. l ++ e) first ∙ append_assoc a d e

module _ (net : Net) (early : net.stop.nanos ≤ latest_time) (end : Time) (until : end.nanos ≤ net.stop.nanos) (old taken new : Host) (e : Event) (before after : Outbox)
    (queue_is : old.queue ≡ e ∷ taken.queue) (ordered : IsOrdered old.queue) (body_is : taken.body ≡ old.body) (due : e.key.due.nanos < end.nanos)
    (fired : (h : HostRecord) → Stands taken h → h.link.time.nanos ≤ e.key.due.nanos → Fires net e h taken new before after) where
  stop : e.key.due.nanos < net.stop.nanos
  stop = omega arith

  in_order : IsOrdered (e ∷ taken.queue)
  in_order = subst IsOrdered queue_is ordered

  module _ (h : HostRecord) (stands : Stands old h) (owns : Owns net h.link old.queue) where
    owned : Owns net h.link (e ∷ taken.queue)
    owned = subst (Owns net h.link) queue_is owns

    there : Stands taken h
    there = stands_same old taken h body_is stands

    turned : Fires net e h taken new before after
    turned = fired h there (clock_is net early h e taken.queue stands.made stands.lines owned in_order stop)

    owns_new : Owns net (fire net h e).host.link new.queue
    owns_new = subst (Owns net (fire net h e).host.link) (sym turned.queue) (owns_after net early h e taken.queue stands.made stands.lines owned in_order stop)

    falls_new : length new.queue + ((2 ^ 64 - 1) - new.body.link.next) < length old.queue + ((2 ^ 64 - 1) - old.body.link.next)
    falls_new =
        let less = falls net early h e taken.queue stands.made stands.lines owned in_order stop in
        let a : length new.queue ≡ length (with_events (own_events net h.link.number (fire net h e).made) taken.queue) = ap length turned.queue in
        let b : length old.queue ≡ length (e ∷ taken.queue) = ap length queue_is in
        let c : new.body.link.next ≡ (fire net h e).host.link.next = ap (λ (l : LinkState). l.next) turned.host.body.link in
        let d : old.body.link.next ≡ h.link.next = ap (λ (l : LinkState). l.next) stands.body.link in
        omega arith

  pub may_run_on : MayRun net old → MayRun net new
  may_run_on (h, stands, owns) = ((fire net h e).host, (turned h stands owns).host, owns_new h stands owns)

  pub run_falls : MayRun net old → length new.queue + ((2 ^ 64 - 1) - new.body.link.next) < length old.queue + ((2 ^ 64 - 1) - old.body.link.next)
  run_falls (h, stands, owns) = falls_new h stands owns

  module _ (own : MayRun net old) (h0 : HostRecord) (queue0 : List Event) (start : Outbox) (s : SoFar net end h0 queue0 old start before) where
    abbrev h : HostRecord
    h = s.host

    abbrev n : ℕ
    n = h0.link.number

    abbrev g : Fired HostRecord Line
    g = fire net h e

    owns : Owns net h.link old.queue
    owns = owns_same net old own.0 h old.queue own.1 s.stands own.2

    mine : Owns net h.link (e ∷ taken.queue)
    mine = owned h s.stands owns

    t : Fires net e h taken new before after
    t = turned h s.stands owns

    abbrev gone : List Event
    gone = others net n g.made

    found : (rest : List Event) × (take_least s.queue ≡ Some (e, rest)) × IsPermutation taken.queue rest
    found =
        take_least_permutation (e ∷ taken.queue) s.queue e taken.queue (first_taken e taken.queue in_order.0)
        (subst (λ (q : List Event). IsPermutation q s.queue) queue_is s.same) (ordered_apart (e ∷ taken.queue) in_order)

    abbrev left : List Event
    left = found.0 ++ events_at (model net) n g.made

    own_is : own_events net h.link.number g.made ≡ events_at (model net) n g.made
    own_is = own_at net h.link.number g.made ∙ ap (λ (k : ℕ). events_at (model net) k g.made) s.number

    same_after : IsPermutation new.queue left
    same_after =
        subst (λ (q : List Event). IsPermutation q left) (sym t.queue)
        (IsPermutation-trans (with_events (own_events net h.link.number g.made) taken.queue) (taken.queue ++ own_events net h.link.number g.made) left
        (moved net early h e taken.queue s.stands.made s.stands.lines mine in_order stop)
        (subst (λ (l : List Event). IsPermutation (taken.queue ++ l) left) (sym own_is)
        (IsPermutation-append_left (events_at (model net) n g.made) taken.queue found.0 found.2)))

    behind_is : (ran : Ran HostRecord Line) → behind s.packets s.lines s.fired (fired_first (model net) n e g ran)
        ≡ behind (s.packets ++ gone) (s.lines ++ order.logged e.key g.lines) (s.fired ++ e ∷ []) ran
    behind_is ran =
        let p = sym (append_assoc s.packets gone ran.packets) in
        let q = sym (append_assoc s.lines (order.logged e.key g.lines) ran.lines) in
        let r = sym (append_assoc s.fired (e ∷ []) ran.fired) in
        λ i. record { host = ran.host; queue = ran.queue; packets = p i; lines = q i; fired = r i }

    leads_on : (ran : Ran HostRecord Line) → RunsTo (model net) n end.nanos g.host left ran
        → RunsTo (model net) n end.nanos h0 queue0 (behind (s.packets ++ gone) (s.lines ++ order.logged e.key g.lines) (s.fired ++ e ∷ []) ran)
    leads_on ran runs =
        subst (RunsTo (model net) n end.nanos h0 queue0) (behind_is ran)
        (s.leads (fired_first (model net) n e g ran)
        (subst (λ (k : ℕ). RunsTo (model net) k end.nanos h s.queue (fired_first (model net) k e g ran)) s.number
        (turn_goes net early h e taken.queue s.stands.made s.stands.lines mine in_order stop end.nanos s.queue found.0 ran found.1 due
        (subst (λ (k : ℕ). RunsTo (model net) k end.nanos g.host (found.0 ++ events_at (model net) k g.made) ran) (sym s.number) runs))))

    made_parcels : parcels_of net h.link.number g.made ≡ parcels_of net n gone
    made_parcels = ap (λ (k : ℕ). parcels_of net k g.made) s.number ∙ sym (parcels_others net n g.made)

    gone_posts : map parcel_event (parcels_of net n gone) ≡ gone
    gone_posts =
        ap (map parcel_event) (parcels_others net n g.made)
        ∙ subst (λ (k : ℕ). map parcel_event (parcels_of net k g.made) ≡ others net k g.made) s.number (made_packets net early h e taken.queue s.stands.made s.stands.lines mine in_order stop)

    pub so_far_on : SoFar net end h0 queue0 new start after
    so_far_on = record {
      host = g.host;
      queue = left;
      packets = s.packets ++ gone;
      lines = s.lines ++ order.logged e.key g.lines;
      fired = s.fired ++ e ∷ [];
      wrote = s.wrote ++ wrote net h e;
      stands = t.host;
      number = number_after net early h e taken.queue s.stands.made s.stands.lines mine in_order stop ∙ s.number;
      same = same_after;
      leads = leads_on;
      parcels = twice start.parcels.items before.parcels.items after.parcels.items (parcels_of net n s.packets) (parcels_of net n gone) s.parcels
          (t.parcels ∙ ap (λ (l : List Parcel). before.parcels.items ++ l) made_parcels)
          ∙ ap (λ (l : List Parcel). start.parcels.items ++ l) (sym (parcels_append net n s.packets gone));
      posts = ap (map parcel_event) (parcels_append net n s.packets gone) ∙ map-append parcel_event (parcels_of net n s.packets) (parcels_of net n gone)
          ∙ ap (λ (l : List Event). l ++ map parcel_event (parcels_of net n gone)) s.posts ∙ ap (λ (l : List Event). s.packets ++ l) gone_posts;
      logs = twice start.lines.items before.lines.items after.lines.items (map kept_line s.lines) (map (logged e.key) g.lines) s.logs t.lines
          ∙ ap (λ (l : List Logged). start.lines.items ++ l)
          (ap (λ (l : List Logged). map kept_line s.lines ++ l) (sym (kept_logged e.key g.lines)) ∙ sym (map-append kept_line s.lines (order.logged e.key g.lines)));
      written = twice h0.written h.written g.host.written s.wrote (wrote net h e) s.written refl;
      outputs = twice start.outputs.items before.outputs.items after.outputs.items s.wrote (wrote net h e) s.outputs t.outputs;
    }

-- ---- the end of the run

none_by : (b r : Bool) → b ≡ false → r ≡ false → (b || r) ≡ false
none_by true r is rest = absurd (cc)
none_by false r is rest = rest

none_due : (end : ℕ) (es : List Event) → Each (λ (e : Event). end ≤ e.key.due.nanos) es → has_due end es ≡ false
none_due end [] late = refl
none_due end (e ∷ es) late =
    let l : end ≤ e.key.due.nanos = late e (inl refl) in
    let is : nat_lt e.key.due.nanos end ≡ false = grind (arith, nat_tests) in
    none_by (nat_lt e.key.due.nanos end) (has_due end es) is (none_due end es (λ x h. late x (inr h)))

pub has_run : (net : Net) (end : Time) (h0 : HostRecord) (start last new : Host) (before after : Outbox) → SoFar net end h0 start.queue last before after
    → All (λ (e : Event). end.nanos ≤ e.key.due.nanos) last.queue → new.queue ≡ last.queue → new.body ≡ last.body → RunsUntil net end h0 start new before after
has_run net end h0 start last new before after s over queue_is body_is =
    let none : has_due end.nanos s.queue ≡ false =
    none_due end.nanos s.queue (Each_from_All (λ (e : Event). end.nanos ≤ e.key.due.nanos) s.queue (All-permutation (λ (e : Event). end.nanos ≤ e.key.due.nanos) last.queue s.queue s.same over)) in
    let p = append-nil s.packets in
    let q = append-nil s.lines in
    let r = append-nil s.fired in
    let is : behind s.packets s.lines s.fired (unfired s.host s.queue) ≡ record { host = s.host; queue = s.queue; packets = s.packets; lines = s.lines; fired = s.fired } =
    λ i. record { host = s.host; queue = s.queue; packets = p i; lines = q i; fired = r i } in
    record {
      ran = record { host = s.host; queue = s.queue; packets = s.packets; lines = s.lines; fired = s.fired };
      runs = subst (RunsTo (model net) h0.link.number end.nanos h0 start.queue) is (s.leads (unfired s.host s.queue) (rests s.host s.queue none));
      host = stands_same last new s.host body_is s.stands;
      queue = subst (λ (l : List Event). IsPermutation l s.queue) (sym queue_is) s.same;
      over = subst (All (λ (e : Event). end.nanos ≤ e.key.due.nanos)) (sym queue_is) over;
      parcels = s.parcels;
      packets = s.posts;
      lines = s.logs;
      wrote = s.wrote;
      written = s.written;
      outputs = s.outputs;
    }

pub may_run_same : (net : Net) (c d : Host) → d.queue ≡ c.queue → d.body ≡ c.body → MayRun net c → MayRun net d
may_run_same net c d queue_is body_is (h, stands, owns) = (h, stands_same c d h body_is stands, subst (Owns net h.link) (sym queue_is) owns)
