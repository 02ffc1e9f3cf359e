-- The steps that fire nothing.
use Rattle.std.proofs.Common.{◌≡◌, ℕ, zero, suc, ◌<◌, inl, inr, Bool, true, false, ◌&&◌, not, is_none, List, [], ◌∷◌, ◌++◌, All, length, map, Option, Some, None, option_map, slice_get, slice_set, refl, sym, ap, subst, ◌∙◌, arith, Vec, Global, IsPermutation}
use Rattle.sim_base.specs.declared.event.Event.{Event}
use Rattle.sim_base.specs.declared.event.Parcel.{Parcel}
use Rattle.file_calls.specs.declared.task.Output.{Output}
use Rattle.host_state.specs.declared.host.Host.{Host}
use Rattle.host_link.specs.declared.line.Line.{Line}
use Rattle.host_link.specs.declared.line.Logged.{Logged as HostLogged}
use Rattle.host_link.specs.Net.{Net}
use Rattle.host_state.specs.Fits.{model}
use Rattle.host_link.specs.Home.{home}
use Rattle.host_state.specs.HostRecord.{HostRecord}
use Rattle.host_state.specs.HostStands.{Stands}
use Rattle.host_link.specs.Parcels.{parcel_event}
use Rattle.world_order.specs.Round as order
use Rattle.world_order.specs.Steps as steps
use Rattle.world_order.specs.World.{World, Logged}
use Rattle.world_order.specs.declared.round_window.Window.{Window}
use Rattle.world_order.specs.declared.step.Spot.{Spot}
use Rattle.world_order.specs.declared.step.Spot.TheVariants.{Place, Spill}
use Rattle.world_order.proofs.Homes.{some_is, below_get}
use Rattle.world_order.proofs.Members.{IsIn, Each, Each_from_All, All_from_Each}
use Rattle.world_order.proofs.Parts.{from_then, from_map, from_given}
use Rattle.round_schedule.specs.inside.Guards as guards
use Rattle.round_schedule.specs.inside.Kinds.{takes_host, gives, puts}
use Rattle.round_schedule.specs.inside.Putting.{Spills, HasPlaced}
use Rattle.round_schedule.specs.Reaching.{State, Going, May, Does}
use Rattle.round_schedule.specs.Standing.{EachStands, ParcelsStand, PlaceStands, MemberStands, WorkerStands, GoingStands, RoundStands, stage_of, lines_of, written_at}
use Rattle.round_schedule.specs.declared.member.Member.{Member}
use Rattle.round_schedule.specs.declared.member.Stage.{Stage}
use Rattle.round_schedule.specs.declared.member.Stage.TheVariants as stage
use Rattle.round_schedule.specs.declared.member.Worker.{Worker}
use Rattle.round_schedule.specs.declared.round.Round.{Round}
use Rattle.round_schedule.proofs.Guarding.{held_same}
use Rattle.round_schedule.proofs.Packets.{parcels_append}
use Rattle.round_schedule.proofs.Pairs.{pair_of, pair_set}

abbrev Member' : Type 0
Member' = order.Member HostRecord

-- what stays the same
pub record IsSameRest (old new : Round) : Type 0 where
  pub window : new.window ≡ old.window
  pub closed : new.closed ≡ old.closed

module _ (net : Net) (w : World HostRecord Line) (c d : Round) (r : Going) (stands : GoingStands net w c r) (same : IsSameRest c d) where
  abbrev Both : ℕ → Member → Member' → Type 0
  Both i m x = MemberStands net w i m x

  -- members, workers and lines change
  pub changed : (members : List Member') (workers : List order.Worker) (lines : List (Logged Line)) → EachStands Both d.members.items members → EachStands (λ i. WorkerStands net) d.workers.items workers
      → lines_of d.lines.items ≡ lines → GoingStands net w d (record { end = r.end; members = members; workers = workers; lines = lines })
  changed members workers lines members_stand workers_stand lines_stand = record {
    unclosed = same.closed ∙ stands.unclosed;
    end = ap (λ (v : Window). v.end.nanos) same.window ∙ stands.end;
    members = members_stand;
    workers = workers_stand;
    lines = lines_stand;
  }

  -- a host's stage
  pub stage_changed : (n : ℕ) (m : Member) (x : Member') (s : Stage) → slice_get c.members.items n ≡ Some m → slice_get r.members n ≡ Some x
      → d.members.items ≡ slice_set c.members.items n (record m { stage = s }) → d.workers.items ≡ c.workers.items → d.lines.items ≡ c.lines.items
      → GoingStands net w d (steps.with_member n (record x { stage = stage_of s }) r)
  stage_changed n m x s at there members_is workers_is lines_is =
      let both : Both n m x = stands.members.each n m x at there in
      changed (slice_set r.members n (record x { stage = stage_of s })) r.workers r.lines
      (subst (λ (l : List Member). EachStands Both l (slice_set r.members n (record x { stage = stage_of s }))) (sym members_is)
      (pair_set Both c.members.items r.members stands.members n m (record m { stage = s }) x (record x { stage = stage_of s }) at there
      (record { host = both.host; queue = both.queue; home = both.home; stage = refl; places = both.places; outputs = both.outputs })))
      (subst (λ (l : List Worker). EachStands (λ i. WorkerStands net) l r.workers) (sym workers_is) stands.workers)
      (ap lines_of lines_is ∙ stands.lines)

-- ---- Take

module _ (net : Net) (worker host : ℕ) (c : Round) where
  pub take_below : May net (takes_host worker host) c → host < length c.members.items
  take_below may =
      let a = from_map (steps.take_host worker host may.round) order.Going may.next may.leads in
      let b = from_then (slice_get may.round.workers worker) _ a.0 a.1 in
      let d = from_then (slice_get may.round.members host) _ a.0 b.2 in
      let below = below_get may.round.members host d.0 d.1 in
      let count = may.stands.members.count in
      omega arith

  pub taken : (d : Round) (m : Member) → IsSameRest c d → slice_get c.members.items host ≡ Some m
      → d.members.items ≡ slice_set c.members.items host (record m { stage = stage.InHand worker }) → d.workers.items ≡ c.workers.items → d.lines.items ≡ c.lines.items
      → Does net (takes_host worker host) c d
  taken d m same at members_is workers_is lines_is = record {
    window = same.window;
    stands = λ w r t stands is.
        let a = from_map (steps.take_host worker host r) order.Going t is in
        let b = from_then (slice_get r.workers worker) _ a.0 a.1 in
        let e = from_then (slice_get r.members host) _ a.0 b.2 in
        let f = from_given (steps.is_waiting e.0.stage && is_none (steps.held worker r.members)) _ a.0 e.2 in
        subst (RoundStands net w d) (ap order.Going f.1 ∙ a.2)
        (stage_changed net w c d r stands same host m e.0 (stage.InHand worker) at e.1 members_is workers_is lines_is);
  }

-- ---- Back

module _ (net : Net) (worker : ℕ) (c : Round) where
  -- the host in hand is there
  pub back_held : May net (gives worker) c → (n : ℕ) × (guards.held worker c ≡ Some n) × (n < length c.members.items)
  back_held may =
      let a = from_map (steps.give_back worker may.round) order.Going may.next may.leads in
      let b = from_then (steps.held worker may.round.members) _ a.0 a.1 in
      let e = from_then (slice_get may.round.members b.0) _ a.0 b.2 in
      let below = below_get may.round.members b.0 e.0 e.1 in
      let count = may.stands.members.count in
      (b.0, held_same net may.world c may.round may.stands worker ∙ b.1, omega arith)

  pub given_back : (d : Round) (n : ℕ) (m : Member) → IsSameRest c d → slice_get c.members.items n ≡ Some m → ((w : World HostRecord Line) (r : Going) → GoingStands net w c r → steps.held worker r.members ≡ Some n)
      → d.members.items ≡ slice_set c.members.items n (record m { stage = stage.Done }) → d.workers.items ≡ c.workers.items → d.lines.items ≡ c.lines.items
      → Does net (gives worker) c d
  given_back d n m same at held members_is workers_is lines_is = record {
    window = same.window;
    stands = λ w r t stands is.
        let a = from_map (steps.give_back worker r) order.Going t is in
        let b = from_then (steps.held worker r.members) _ a.0 a.1 in
        let e = from_then (slice_get r.members b.0) _ a.0 b.2 in
        let f = from_then (slice_get r.workers worker) _ a.0 e.2 in
        let g = from_given (not (steps.has_due r.end e.0.queue) && steps.is_empty f.0.hand) _ a.0 f.2 in
        let place : b.0 ≡ n = some_is b.0 n (sym b.1 ∙ held w r stands) in
        subst (RoundStands net w d) (ap order.Going g.1 ∙ a.2)
        (subst (λ (i : ℕ). GoingStands net w d (steps.with_member i (record e.0 { stage = order.Done }) r)) (sym place)
        (stage_changed net w c d r stands same n m e.0 stage.Done at (ap (slice_get r.members) (sym place) ∙ e.1) members_is workers_is lines_is));
  }

-- ---- the packets in a hand

-- the first of them
pub hand_first : (net : Net) (ps : List Parcel) (e : Event) (rest : List Event) → ParcelsStand net ps (e ∷ rest)
    → (p : Parcel) × (qs : List Parcel) × (ps ≡ p ∷ qs) × (parcel_event p ≡ e) × (p.to.index ≡ home net e) × ParcelsStand net qs rest
hand_first net [] e rest stand = absurd (let is : [] ≡ e ∷ rest = stand.events in cc)
hand_first net (p ∷ qs) e rest stand =
    let first : parcel_event p ≡ e = (let is : parcel_event p ∷ map parcel_event qs ≡ e ∷ rest = stand.events in cc) in
    let others : map parcel_event qs ≡ rest = (let is : parcel_event p ∷ map parcel_event qs ≡ e ∷ rest = stand.events in cc) in
    let each = Each_from_All (λ (q : Parcel). q.to.index ≡ home net (parcel_event q)) (p ∷ qs) stand.home in (
      p,
      qs,
      refl,
      first,
      each p (inl refl) ∙ ap (home net) first,
      record {
        events = others;
        home = All_from_Each (λ (q : Parcel). q.to.index ≡ home net (parcel_event q)) qs (λ q h. each q (inr h));
      },
    )

first_is : (worker : order.Worker) (p : Event × List Event) → steps.first worker.hand ≡ Some p → worker.hand ≡ p.0 ∷ p.1
first_is worker p is = by_hand worker.hand is
  where
    by_hand : (hand : List Event) → steps.first hand ≡ Some p → hand ≡ p.0 ∷ p.1
    by_hand [] is = absurd (cc)
    by_hand (x ∷ xs) is = let same : (x, xs) ≡ p = cc in λ i. (same i).0 ∷ (same i).1

-- what a Put finds: the worker, and its first packet
pub record Finds (net : Net) (worker : ℕ) (spot : Spot) (w : World HostRecord Line) (c : Round) (r u : Going) : Type 0 where
  pub here : Worker
  pub at : slice_get c.workers.items worker ≡ Some here
  pub there : order.Worker
  pub there_at : slice_get r.workers worker ≡ Some there
  pub stands : WorkerStands net here there
  pub packet : Event
  pub rest : List Event
  pub hand : there.hand ≡ packet ∷ rest
  pub puts : steps.put_at (model net) worker there packet rest spot r ≡ Some u

pub finds : (net : Net) (worker : ℕ) (spot : Spot) (w : World HostRecord Line) (c : Round) (r u : Going) → GoingStands net w c r → steps.put_packet (model net) worker spot r ≡ Some u
    → Finds net worker spot w c r u
finds net worker spot w c r u stands is =
    let b = from_then (slice_get r.workers worker) _ u is in
    let d = from_then (steps.first b.0.hand) _ u b.2 in
    let (m, at, both) = pair_of (λ i. WorkerStands net) c.workers.items r.workers stands.workers worker b.0 b.1 in
    record { here = m; at = at; there = b.0; there_at = b.1; stands = both; packet = d.0.0; rest = d.0.1; hand = first_is b.0 d.0 d.1; puts = d.2 }

module _ (net : Net) (worker : ℕ) (spot : Spot) (c : Round) where
  -- the worker of a Put is there, and has a packet
  pub put_worker : May net (puts net worker spot) c → (m : Worker) × (slice_get c.workers.items worker ≡ Some m) × (0 < length m.hand.items)
  put_worker may =
      let a = from_map (steps.put_packet (model net) worker spot may.round) order.Going may.next may.leads in
      let f = finds net worker spot may.world c may.round a.0 may.stands a.1 in
      let g = hand_first net f.here.hand.items f.packet f.rest (subst (ParcelsStand net f.here.hand.items) f.hand f.stands.hand) in
      (f.here, f.at, (let long : length f.here.hand.items ≡ length (g.0 ∷ g.1) = ap length g.2 in omega arith))

-- to the spill
pub spilled : (net : Net) (worker : ℕ) (c d : Round) (m n : Worker) → IsSameRest c d → slice_get c.workers.items worker ≡ Some m → Spills m n
    → d.workers.items ≡ slice_set c.workers.items worker n → d.members.items ≡ c.members.items → d.lines.items ≡ c.lines.items → Does net (puts net worker Spill) c d
spilled net worker c d m n same at spills workers_is members_is lines_is = record {
  window = same.window;
  stands = λ w r t stands is.
      let a = from_map (steps.put_packet (model net) worker Spill r) order.Going t is in
      let f = finds net worker Spill w c r a.0 stands a.1 in
      let here : f.here ≡ m = some_is f.here m (sym f.at ∙ at) in
      let u_is : steps.put_spill worker f.there f.packet f.rest r ≡ a.0 = some_is _ a.0 f.puts in
      let both : WorkerStands net m f.there = subst (λ (k : Worker). WorkerStands net k f.there) here f.stands in
      let hand = hand_first net (spills.parcel ∷ n.hand.items) f.packet f.rest (subst (λ (l : List Parcel). ParcelsStand net l (f.packet ∷ f.rest)) spills.hand (subst (ParcelsStand net m.hand.items) f.hand both.hand)) in
      let first : spills.parcel ≡ hand.0 = (let e : spills.parcel ∷ n.hand.items ≡ hand.0 ∷ hand.1 = hand.2 in cc) in
      let others : hand.1 ≡ n.hand.items = (let e : spills.parcel ∷ n.hand.items ≡ hand.0 ∷ hand.1 = hand.2 in cc) in
      let one : ParcelsStand net (spills.parcel ∷ []) (f.packet ∷ []) = subst (λ (p : Parcel). ParcelsStand net (p ∷ []) (f.packet ∷ [])) (sym first)
      (record { events = ap (λ (e : Event). e ∷ []) hand.3; home = All_from_Each (λ (q : Parcel). q.to.index ≡ home net (parcel_event q)) (hand.0 ∷ []) (λ q h. one_for hand.0 q f.packet hand.3 hand.4 h) }) in
      subst (RoundStands net w d) (ap order.Going u_is ∙ a.2)
      (changed net w c d r stands same r.members (slice_set r.workers worker (record { hand = f.rest; spill = f.there.spill ++ f.packet ∷ [] })) r.lines
      (subst (λ (l : List Member). EachStands (MemberStands net w) l r.members) (sym members_is) stands.members)
      (subst (λ (l : List Worker). EachStands (λ i. WorkerStands net) l (slice_set r.workers worker (record { hand = f.rest; spill = f.there.spill ++ f.packet ∷ [] }))) (sym workers_is)
      (pair_set (λ i. WorkerStands net) c.workers.items r.workers stands.workers worker m n f.there (record { hand = f.rest; spill = f.there.spill ++ f.packet ∷ [] }) at f.there_at
      (record {
        hand = subst (λ (l : List Parcel). ParcelsStand net l f.rest) others hand.5;
        spill = subst (λ (l : List Parcel). ParcelsStand net l (f.there.spill ++ f.packet ∷ [])) (sym spills.spill) (parcels_append net m.spill.items (spills.parcel ∷ []) f.there.spill (f.packet ∷ []) both.spill one);
      })))
      (ap lines_of lines_is ∙ stands.lines));
}
  where
    one_for : (p q : Parcel) (e : Event) → parcel_event p ≡ e → p.to.index ≡ home net e → IsIn q (p ∷ []) → q.to.index ≡ home net (parcel_event q)
    one_for p q e is to (inl same) = subst (λ (x : Parcel). x.to.index ≡ home net (parcel_event x)) (sym same) (to ∙ ap (home net) (sym is))
    one_for p q e is to (inr h) = absurd h

-- ---- to a place

none_kept : (o : Option Event) → is_none o ≡ true → o ≡ None
none_kept None is = refl
none_kept (Some e) is = absurd (cc)

-- what a Put to a place finds: the host, and the place
pub record FindsPlace (net : Net) (worker place : ℕ) (w : World HostRecord Line) (c : Round) (r u : Going) : Type 0 where
  pub finds : Finds net worker (Place place) w c r u
  pub member : Member
  pub member_at : slice_get c.members.items (home net finds.packet) ≡ Some member
  pub record_of : Member'
  pub record_at : slice_get r.members (home net finds.packet) ≡ Some record_of
  pub member_stands : MemberStands net w (home net finds.packet) member record_of
  pub free : slice_get record_of.places place ≡ Some None
  pub is : steps.put_place worker finds.there finds.packet finds.rest (home net finds.packet) place record_of r ≡ u

pub finds_place : (net : Net) (worker place : ℕ) (w : World HostRecord Line) (c : Round) (r u : Going) → GoingStands net w c r → steps.put_packet (model net) worker (Place place) r ≡ Some u
    → FindsPlace net worker place w c r u
finds_place net worker place w c r u stands is =
    let f = finds net worker (Place place) w c r u stands is in
    let a = from_then (slice_get r.members (home net f.packet)) _ u f.puts in
    let b = from_then (slice_get a.0.places place) _ u a.2 in
    let e = from_given (is_none b.0) _ u b.2 in
    let (m, at, both) = pair_of (MemberStands net w) c.members.items r.members stands.members (home net f.packet) a.0 a.1 in
    record { finds = f; member = m; member_at = at; record_of = a.0; record_at = a.1; member_stands = both; free = b.1 ∙ ap Some (none_kept b.0 e.0); is = e.1 }

module _ (net : Net) (worker place : ℕ) (c : Round) (m n : Worker) (p : Parcel) (at : slice_get c.workers.items worker ≡ Some m) (hand : m.hand.items ≡ p ∷ n.hand.items) where
  -- the packet, and those that stay in the hand
  pub taken_out : (spot : Spot) (w : World HostRecord Line) (r u : Going) (f : Finds net worker spot w c r u) → (parcel_event p ≡ f.packet) × (p.to.index ≡ home net f.packet) × ParcelsStand net n.hand.items f.rest
  taken_out spot w r u f =
      let here : f.here ≡ m = some_is f.here m (sym f.at ∙ at) in
      let both : WorkerStands net m f.there = subst (λ (k : Worker). WorkerStands net k f.there) here f.stands in
      let h = hand_first net (p ∷ n.hand.items) f.packet f.rest (subst (λ (l : List Parcel). ParcelsStand net l (f.packet ∷ f.rest)) hand (subst (ParcelsStand net m.hand.items) f.hand both.hand)) in
      let first : h.0 ≡ p = (let e : p ∷ n.hand.items ≡ h.0 ∷ h.1 = h.2 in cc) in
      let others : h.1 ≡ n.hand.items = (let e : p ∷ n.hand.items ≡ h.0 ∷ h.1 = h.2 in cc) in (
        ap parcel_event (sym first) ∙ h.3,
        ap (λ (q : Parcel). q.to.index) (sym first) ∙ h.4,
        subst (λ (l : List Parcel). ParcelsStand net l f.rest) others h.5,
      )

  -- the host of a Put to a place is there, and so is the place
  pub place_there : May net (puts net worker (Place place)) c → (x : Member) × (slice_get c.members.items p.to.index ≡ Some x) × (place < length x.places.items)
  place_there may =
      let a = from_map (steps.put_packet (model net) worker (Place place) may.round) order.Going may.next may.leads in
      let f = finds_place net worker place may.world c may.round a.0 may.stands a.1 in
      let t = taken_out (Place place) may.world may.round a.0 f.finds in (
        f.member,
        ap (slice_get c.members.items) t.1 ∙ f.member_at,
        (let below = below_get f.record_of.places place None f.free in let count = f.member_stands.places.count in omega arith),
      )

  pub placed : (d : Round) (x y : Member) → IsSameRest c d → slice_get c.members.items p.to.index ≡ Some x → HasPlaced place p x y → n.spill ≡ m.spill
      → d.members.items ≡ slice_set c.members.items p.to.index y → d.workers.items ≡ slice_set c.workers.items worker n → d.lines.items ≡ c.lines.items
      → Does net (puts net worker (Place place)) c d
  placed d x y same x_at has spill members_is workers_is lines_is = record {
    window = same.window;
    stands = λ w r t stands is.
        let a = from_map (steps.put_packet (model net) worker (Place place) r) order.Going t is in
        let f = finds_place net worker place w c r a.0 stands a.1 in
        let g = f.finds in
        let out = taken_out (Place place) w r a.0 g in
        let number = home net g.packet in
        let x_is : f.member ≡ x = some_is f.member x (sym f.member_at ∙ ap (slice_get c.members.items) (sym out.1) ∙ x_at) in
        let old : MemberStands net w number x f.record_of = subst (λ (z : Member). MemberStands net w number z f.record_of) x_is f.member_stands in
        let new_record : Member' = record (f.record_of) { places = slice_set f.record_of.places place (Some g.packet) } in
        let worker_is : g.here ≡ m = some_is g.here m (sym g.at ∙ at) in
        let carried : WorkerStands net m g.there = subst (λ (k : Worker). WorkerStands net k g.there) worker_is g.stands in
        let there = pair_of (PlaceStands net) x.places.items f.record_of.places old.places place None f.free in
        let new : MemberStands net w number y new_record = record {
          host = subst (λ (h : Host). Stands h f.record_of.host) (sym has.host) old.host;
          queue = subst (λ (h : Host). IsPermutation h.queue f.record_of.queue) (sym has.host) old.queue;
          home = subst (λ (h : Host). All (λ (e : Event). home net e ≡ number) h.queue) (sym has.host) old.home;
          stage = ap stage_of has.stage ∙ old.stage;
          places = subst (λ (l : List (Option Parcel)). EachStands (PlaceStands net) l new_record.places) (sym has.places)
              (pair_set (PlaceStands net) x.places.items f.record_of.places old.places place there.0 (Some p) None (Some g.packet) there.1 f.free (out.0, out.1));
          outputs = subst (λ (o : Vec Output Global). f.record_of.host.written ≡ written_at w number ++ o.items) (sym has.outputs) old.outputs;
        } in
        subst (RoundStands net w d) (ap order.Going f.is ∙ a.2)
        (changed net w c d r stands same (slice_set r.members number new_record) (slice_set r.workers worker (record (g.there) { hand = g.rest })) r.lines
        (subst (λ (l : List Member). EachStands (MemberStands net w) l (slice_set r.members number new_record))
        (ap (λ (i : ℕ). slice_set c.members.items i y) (sym out.1) ∙ sym members_is)
        (pair_set (MemberStands net w) c.members.items r.members stands.members number x y f.record_of new_record
        (ap (slice_get c.members.items) (sym out.1) ∙ x_at) f.record_at new))
        (subst (λ (l : List Worker). EachStands (λ i. WorkerStands net) l (slice_set r.workers worker (record (g.there) { hand = g.rest }))) (sym workers_is)
        (pair_set (λ i. WorkerStands net) c.workers.items r.workers stands.workers worker m n g.there (record (g.there) { hand = g.rest }) at g.there_at
        (record { hand = out.2; spill = subst (λ (v : Vec Parcel Global). ParcelsStand net v.items g.there.spill) (sym spill) carried.spill })))
        (ap lines_of lines_is ∙ stands.lines));
  }
