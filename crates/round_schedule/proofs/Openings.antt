-- A round that is opened.
use Rattle.std.proofs.Common.{◌≡◌, ◌≢◌, ℕ, zero, suc, ◌+◌, ◌<◌, ◌⊎◌, ⊎_elim, inl, inr, true, false, ◌==◌, List, [], ◌∷◌, ◌++◌, All, length, map, flat_map, filter, replicate, Option, Some, None, slice_get, refl, sym, ap, subst, ◌∙◌, arith, IsPermutation, append-nil, length-append}
use Rattle.std.proofs.lemmas.Bool.Decides.{Decides-eqb}
use Rattle.std.proofs.lemmas.List.Elements.{All-nil}
use Rattle.std.proofs.lemmas.List.Sorted.{IsPermutation-sym, IsPermutation-trans}
use Rattle.sim_base.specs.declared.event.Event.{Event}
use Rattle.sim_base.specs.declared.event.Parcel.{Parcel}
use Rattle.file_calls.specs.declared.task.Output.{Output}
use Rattle.host_state.specs.declared.host.Host.{Host}
use Rattle.host_link.specs.declared.line.Line.{Line}
use Rattle.host_link.specs.Net.{Net}
use Rattle.host_state.specs.Fits.{model}
use Rattle.host_link.specs.Home.{home}
use Rattle.host_state.specs.HostRecord.{HostRecord}
use Rattle.host_state.specs.HostStands.{Stands}
use Rattle.host_link.specs.Parcels.{parcel_event}
use Rattle.world_order.specs.EventOrder.{AreApart}
use Rattle.world_order.specs.Round as order
use Rattle.world_order.specs.World.{World}
use Rattle.world_order.specs.declared.round_window.Window.{Window}
use Rattle.world_order.proofs.Apart.{AreApart_permutation, apart_left, same_members}
use Rattle.world_order.proofs.Fires.{in_part, part_in}
use Rattle.world_order.proofs.Homes.{some_is, get_below, below_get}
use Rattle.world_order.proofs.Members.{IsIn, IsIn_permutation, IsIn_filter, IsIn_filter_from, Each_from_All}
use Rattle.world_order.proofs.Openings.{filter_apart}
use Rattle.world_order.proofs.Parts.{part, others}
use Rattle.round_schedule.specs.Opening.{MayOpen}
use Rattle.round_schedule.specs.Reaching.{State, Going, round_on}
use Rattle.round_schedule.specs.Standing.{EachStands, HostsStand, ParcelsStand, PlaceStands, MemberStands, WorkerStands, GoingStands, RoundStands, AreIdle, IsWaiting, stage_of, lines_of, written_in, written_at}
use Rattle.round_schedule.specs.declared.member.Member.{Member}
use Rattle.round_schedule.specs.declared.member.Worker.{Worker}
use Rattle.round_schedule.specs.declared.round.Round.{Round}
use Rattle.round_schedule.proofs.Pairs.{pair_back}

abbrev Member' : Type 0
Member' = order.Member HostRecord

-- ---- the definition's opening, by number

length_opened : (net : Net) (events : List Event) (number : ℕ) (hosts : List HostRecord) → length (order.opened_from (model net) events number hosts) ≡ length hosts
length_opened net events number [] = refl
length_opened net events number (h ∷ hosts) = ap suc (length_opened net events (suc number) hosts)

-- a host that waits
abbrev waiting : Net → List Event → ℕ → HostRecord → Member'
waiting net events i h = record { host = h; queue = order.events_at (model net) i events; stage = order.Waits; places = replicate order.place_count None }

opened_at : (net : Net) (events : List Event) (number : ℕ) (hosts : List HostRecord) (i : ℕ) (x : Member') → slice_get (order.opened_from (model net) events number hosts) i ≡ Some x
    → (h : HostRecord) × (slice_get hosts i ≡ Some h) × (waiting net events (number + i) h ≡ x)
opened_at net events number [] i x at = absurd (let e : None ≡ Some x = at in cc)
opened_at net events number (h ∷ hosts) zero x at =
    (h, refl, ap (λ (n : ℕ). waiting net events n h) (let e : number + 0 ≡ number = omega arith in e) ∙ some_is (waiting net events number h) x at)
opened_at net events number (h ∷ hosts) (suc i) x at =
    let r = opened_at net events (suc number) hosts i x at in
    (r.0, r.1, ap (λ (n : ℕ). waiting net events n r.0) (let e : number + suc i ≡ suc number + i = omega arith in e) ∙ r.2)

get_replicate : {X : Type 0} (n i : ℕ) (x y : X) → slice_get (replicate n x) i ≡ Some y → x ≡ y
get_replicate zero i x y at = absurd (let e : None ≡ Some y = at in cc)
get_replicate (suc n) zero x y at = some_is x y at
get_replicate (suc n) (suc i) x y at = get_replicate n i x y at

length_replicate : {X : Type 0} (n : ℕ) (x : X) → length (replicate n x) ≡ n
length_replicate zero x = refl
length_replicate (suc n) x = ap suc (length_replicate n x)

-- free places stand for free places
free_stand : (net : Net) (n : ℕ) (ps : List (Option Parcel)) → ps ≡ replicate n None → EachStands (PlaceStands net) ps (replicate n None)
free_stand net n ps is = record {
  count = ap length is ∙ length_replicate n None ∙ sym (length_replicate n None);
  each = λ i c x at there.
      let c_is : None ≡ c = get_replicate n i None c (sym (ap (λ (l : List (Option Parcel)). slice_get l i) is) ∙ at) in
      let x_is : None ≡ x = get_replicate n i None x there in
      subst (λ (o : Option Parcel). PlaceStands net i o x) c_is (subst (PlaceStands net i None) x_is tt);
}

-- no parcels
none_stand : (net : Net) (ps : List Parcel) → ps ≡ [] → ParcelsStand net ps []
none_stand net ps is = record {
  events = ap (map parcel_event) is;
  home = subst (All (λ (p : Parcel). p.to.index ≡ home net (parcel_event p))) (sym is) (All-nil (λ (p : Parcel). p.to.index ≡ home net (parcel_event p)));
}

-- ---- the events of each host

module _ (net : Net) (hosts : List Host) (w : World HostRecord Line) (stand : HostsStand net hosts w) (apart : AreApart w.events) where
  abbrev queue_of : Host → List Event
  queue_of c = c.queue

  module _ (i : ℕ) (c : Host) (at : slice_get hosts i ≡ Some c) where
    into : (x : Event) → IsIn x c.queue → IsIn x (order.events_at (model net) i w.events)
    into x h =
        let there : IsIn x w.events = IsIn_permutation x (flat_map queue_of hosts) w.events stand.events (in_part queue_of hosts i c x at h) in
        IsIn_filter (λ (e : Event). home net e == i) x w.events there
        ((Decides-eqb (home net x) i).1 (Each_from_All (λ (e : Event). home net e ≡ i) c.queue (stand.home i c at) x h))

    back : (x : Event) → IsIn x (order.events_at (model net) i w.events) → IsIn x c.queue
    back x h =
        let there = IsIn_filter_from (λ (e : Event). home net e == i) x w.events h in
        let m = part_in queue_of hosts x (IsIn_permutation x w.events (flat_map queue_of hosts) (IsPermutation-sym (flat_map queue_of hosts) w.events stand.events) there.0) in
        let number : m.0 ≡ i = sym (Each_from_All (λ (e : Event). home net e ≡ m.0) m.1.queue (stand.home m.0 m.1 m.2) x m.3) ∙ (Decides-eqb (home net x) i).0 there.1 in
        let same : m.1 ≡ c = some_is m.1 c (sym m.2 ∙ ap (slice_get hosts) number ∙ at) in
        subst (λ (d : Host). IsIn x d.queue) same m.3

    pub own_events : IsPermutation c.queue (order.events_at (model net) i w.events)
    own_events =
        let all : AreApart (flat_map queue_of hosts) = AreApart_permutation w.events (flat_map queue_of hosts) (IsPermutation-sym (flat_map queue_of hosts) w.events stand.events) apart in
        same_members c.queue (order.events_at (model net) i w.events)
        (apart_left c.queue (others queue_of hosts i) (AreApart_permutation (flat_map queue_of hosts) (c.queue ++ others queue_of hosts i) (part queue_of hosts i c at) all))
        (filter_apart (λ (e : Event). home net e == i) w.events apart) into back

-- ---- the whole

module _ (net : Net) (window : Window) (hosts : List Host) (workers : ℕ) (may : MayOpen net window hosts) (c : Round) (waiting_all : EachStands (λ i. IsWaiting) hosts c.members.items)
    (idle : AreIdle workers c.workers.items) (window_is : c.window ≡ window) (lines_is : c.lines.items ≡ []) (unclosed : c.closed ≡ false) where
  module _ (w : World HostRecord Line) (stand : HostsStand net hosts w) where
    apart : AreApart w.events
    apart = AreApart_permutation may.world.events w.events
        (IsPermutation-trans may.world.events _ w.events (IsPermutation-sym _ may.world.events may.stand.events) stand.events) may.may.between.apart

    member_opened : (i : ℕ) (m : Member) (x : Member') → slice_get c.members.items i ≡ Some m → slice_get (order.opened_from (model net) w.events 0 w.hosts) i ≡ Some x → MemberStands net w i m x
    member_opened i m x at there =
        let (h, h_at, x_is) = opened_at net w.events 0 w.hosts i x there in
        let below = below_get c.members.items i m at in
        let count = waiting_all.count in
        let (host, host_at) = get_below hosts i (omega arith) in
        let waits : IsWaiting host m = waiting_all.each i host m host_at at in
        let stands : Stands host h = stand.hosts.each i host h host_at h_at in
        let number : i ≡ 0 + i = omega arith in
        subst (MemberStands net w i m) (ap (λ (n : ℕ). waiting net w.events n h) number ∙ x_is)
        (record {
          host = subst (λ (d : Host). Stands d h) (sym waits.host) stands;
          queue = subst (λ (d : Host). IsPermutation d.queue (order.events_at (model net) i w.events)) (sym waits.host) (own_events net hosts w stand apart i host host_at);
          home = subst (λ (d : Host). All (λ (e : Event). home net e ≡ i) d.queue) (sym waits.host) (stand.home i host host_at);
          stage = ap stage_of waits.stage;
          places = free_stand net 16 m.places.items waits.places;
          outputs = ap written_in (sym h_at) ∙ sym (append-nil (written_at w i)) ∙ ap (λ (l : List Output). written_at w i ++ l) (sym waits.outputs);
        })

    worker_idle : (i : ℕ) (m : Worker) (x : order.Worker) → slice_get c.workers.items i ≡ Some m → slice_get (replicate workers (record { hand = []; spill = [] })) i ≡ Some x → WorkerStands net m x
    worker_idle i m x at there =
        let free = idle.each i m at in
        subst (WorkerStands net m) (get_replicate workers i (record { hand = []; spill = [] }) x there)
        (record {
          hand = none_stand net m.hand.items free.0;
          spill = none_stand net m.spill.items free.1;
        })

    pub opens : RoundStands net w c (round_on net window workers w)
    opens = record {
      unclosed = unclosed;
      end = ap (λ (v : Window). v.end.nanos) window_is;
      members = record {
        count = sym waiting_all.count ∙ stand.hosts.count ∙ sym (length_opened net w.events 0 w.hosts);
        each = member_opened;
      };
      workers = record { count = idle.count ∙ sym (length_replicate workers (record { hand = []; spill = [] })); each = worker_idle };
      lines = ap lines_of lines_is;
    }

-- ---- lists that grow side by side

pub pair_none : {C X : Type 0} (R : ℕ → C → X → Type 0) → EachStands R [] []
pair_none R = record { count = refl; each = λ i c x at there. absurd (let e : None ≡ Some c = at in cc) }

last_of : {X : Type 0} (xs : List X) (y : X) (i : ℕ) (x : X) → slice_get (xs ++ y ∷ []) i ≡ Some x → (slice_get xs i ≡ Some x) ⊎ ((i ≡ length xs) × (y ≡ x))
last_of [] y zero x at = inr (refl, some_is y x at)
last_of [] y (suc i) x at = absurd (let e : None ≡ Some x = at in cc)
last_of (z ∷ zs) y zero x at = inl at
last_of (z ∷ zs) y (suc i) x at = ⊎_elim (λ h. inl h) (λ h. inr (ap suc h.0, h.1)) (last_of zs y i x at)

module _ {C X : Type 0} (R : C → X → Type 0) (cs : List C) (xs : List X) (c : C) (x : X) (pairs : EachStands (λ i. R) cs xs) (last : R c x) where
  more_by : (i : ℕ) (d : C) (y : X) → (slice_get cs i ≡ Some d) ⊎ ((i ≡ length cs) × (c ≡ d)) → (slice_get xs i ≡ Some y) ⊎ ((i ≡ length xs) × (x ≡ y)) → R d y
  more_by i d y (inl at) (inl there) = pairs.each i d y at there
  more_by i d y (inl at) (inr there) = absurd (let b = below_get cs i d at in let n = pairs.count in let s = there.0 in omega arith)
  more_by i d y (inr at) (inl there) = absurd (let b = below_get xs i y there in let n = pairs.count in let s = at.0 in omega arith)
  more_by i d y (inr at) (inr there) = subst (λ (e : C). R e y) at.1 (subst (R c) there.1 last)

  pub pair_more : EachStands (λ i. R) (cs ++ c ∷ []) (xs ++ x ∷ [])
  pair_more = record {
    count = length-append cs (c ∷ []) ∙ ap (λ (n : ℕ). n + 1) pairs.count ∙ sym (length-append xs (x ∷ []));
    each = λ i d y at there. more_by i d y (last_of cs c i d at) (last_of xs x i y there);
  }
