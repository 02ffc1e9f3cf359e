-- The host in a worker's hand fires an event.
use Rattle.std.proofs.Common.{◌≡◌, ℕ, ◌-◌, ◌^◌, ◌<◌, ◌≤◌, ◌==◌, inr, not, List, [], ◌∷◌, ◌++◌, All, map, filter, Option, Some, None, option_map, slice_get, slice_set, length, nat_lt, refl, sym, ap, subst, ◌∙◌, arith, rules, Vec, Global, IsPermutation, append_assoc}
use Rattle.std.proofs.lemmas.Bool.Decides.{Decides-eqb}
use Rattle.std.proofs.lemmas.List.Sorted.{All-permutation, IsPermutation-sym, IsPermutation-trans, IsPermutation-append}
use Rattle.sim_base.specs.declared.event.Event.{Event}
use Rattle.sim_base.specs.declared.event.Parcel.{Parcel}
use Rattle.file_calls.specs.declared.task.Output.{Output}
use Rattle.host_link.specs.declared.line.Line.{Line}
use Rattle.host_link.specs.declared.line.Logged.{Logged as HostLogged}
use Rattle.host_link.specs.Net.{Net}
use Rattle.host_state.specs.Fire.{fire, wrote}
use Rattle.host_state.specs.Fits.{model, fires_before_stop, IsEventOf, IsHostOf}
use Rattle.host_link.specs.Home.{home}
use Rattle.host_state.specs.HostRecord.{HostRecord}
use Rattle.host_state.specs.HostStands.{Stands}
use Rattle.host_link.specs.Outbox.{own_events, parcels_of, logged}
use Rattle.host_state.proofs.Simulations.{fires_before_stop_is, firings_fit}
use Rattle.world_order.specs.EventOrder.{take_least}
use Rattle.world_order.specs.Model.{Fired}
use Rattle.world_order.specs.Premises.{IsFit}
use Rattle.world_order.specs.Round as order
use Rattle.world_order.specs.Steps as steps
use Rattle.world_order.specs.World as order_world
use Rattle.world_order.specs.World.{World}
use Rattle.world_order.proofs.Fires.{IsReady, ready_is}
use Rattle.world_order.proofs.Firings.{numbered_source}
use Rattle.world_order.proofs.Homes.{some_is, below_get}
use Rattle.world_order.proofs.Least.{take_least_there, take_least_IsPermutation}
use Rattle.world_order.proofs.Members.{IsIn, Each, Each_from_All, All_from_Each, Each-append, IsIn_permutation, IsIn_filter_from}
use Rattle.world_order.proofs.Orders.{take_least_permutation, window_upto}
use Rattle.world_order.proofs.Parts.{same_order, from_then, from_map, from_given}
use Rattle.round_schedule.specs.inside.Guards as guards
use Rattle.round_schedule.specs.inside.Kinds.{fires}
use Rattle.round_schedule.specs.Reaching.{State, Going, May, Does}
use Rattle.round_schedule.specs.Standing.{EachStands, ParcelsStand, PlaceStands, MemberStands, WorkerStands, GoingStands, RoundStands, stage_of, lines_of, written_at}
use Rattle.round_schedule.specs.inside.Turning.{MayTurn, TurnedBy, Turned, Turns}
use Rattle.round_schedule.specs.declared.firing.HandedOut.{HandedOut}
use Rattle.round_schedule.specs.declared.member.Member.{Member}
use Rattle.round_schedule.specs.declared.member.Worker.{Worker}
use Rattle.round_schedule.specs.declared.round.Round.{Round}
use Rattle.round_schedule.proofs.Guarding.{held_same}
use Rattle.round_schedule.proofs.Keeping.{IsSameRest, changed}
use Rattle.round_schedule.proofs.Packets.{own_at, sent, parcels_sent, parcels_append, lines_more}
use Rattle.round_schedule.proofs.Pairs.{pair_of, pair_set}
use Rattle.round_schedule.proofs.Sound.{SoundRound, SoundHost, reached_sound, sound_host_is, sound_owns, apart_here}

abbrev Member' : Type 0
Member' = order.Member HostRecord

abbrev Firing : Type 0
Firing = Fired HostRecord Line

-- what a Fire finds: the host in hand, and the worker
pub record FindsHost (net : Net) (worker : ℕ) (w : World HostRecord Line) (c : Round) (r u : Going) : Type 0 where
  pub ready : steps.Ready HostRecord
  pub is : IsReady worker r ready
  pub held : steps.held worker r.members ≡ Some ready.number
  pub member : Member
  pub member_at : slice_get c.members.items ready.number ≡ Some member
  pub both : MemberStands net w ready.number member ready.member
  pub hand : Worker
  pub hand_at : slice_get c.workers.items worker ≡ Some hand
  pub hand_stands : WorkerStands net hand ready.worker
  pub u_is : steps.after_fire (model net) worker r ready (fires_before_stop net ready.member.host ready.event) ≡ u

held_ready : (worker : ℕ) (r : Going) (t : steps.Ready HostRecord) → steps.ready worker r ≡ Some t → steps.held worker r.members ≡ Some t.number
held_ready worker r t is =
    let a = from_then (steps.held worker r.members) _ t is in
    let b = from_then (slice_get r.members a.0) _ t a.2 in
    let c = from_then (slice_get r.workers worker) _ t b.2 in
    let d = from_then (take_least b.0.queue) _ t c.2 in
    let e = from_given (nat_lt d.0.0.key.due.nanos r.end) _ t d.2 in
    a.1 ∙ ap (λ (x : steps.Ready HostRecord). Some x.number) e.1

pub finds_host : (net : Net) (worker : ℕ) (w : World HostRecord Line) (c : Round) (r u : Going) → GoingStands net w c r → steps.fire_host (model net) worker r ≡ Some u → FindsHost net worker w c r u
finds_host net worker w c r u stands is =
    let a = from_then (steps.ready worker r) _ u is in
    let t = a.0 in
    let found = ready_is worker r t a.1 in
    let (m, at, both) = pair_of (MemberStands net w) c.members.items r.members stands.members t.number t.member found.member_at in
    let (k, k_at, k_stands) = pair_of (λ i. WorkerStands net) c.workers.items r.workers stands.workers worker t.worker found.worker_at in
    record { ready = t; is = found; held = held_ready worker r t a.1; member = m; member_at = at; both = both; hand = k; hand_at = k_at; hand_stands = k_stands; u_is = some_is _ u a.2 }

-- an event that is due before the end of a round is due before the stop
due_stop : (net : Net) (c : Round) (r : Going) (w v : World HostRecord Line) (u : Going) (e : Event) → GoingStands net w c r → SoundRound net c.window v u → e.key.due.nanos < r.end → e.key.due.nanos < net.stop.nanos
due_stop net c r w v u e stands sound due =
    let upto = window_upto sound.opened.window.lookahead net.stop.nanos c.window.from.nanos in
    let end_is = sound.opened.window.end in
    let same = stands.end in
    omega arith

module _ (net : Net) (worker : ℕ) (c : Round) (may : May net (fires net worker) c) where
  pub led : (u : Going) × (steps.fire_host (model net) worker may.round ≡ Some u) × (order.Going u ≡ may.next)
  led = from_map (steps.fire_host (model net) worker may.round) order.Going may.next may.leads

  pub finds : FindsHost net worker may.world c may.round led.0
  finds = finds_host net worker may.world c may.round led.0 may.stands led.1

  pub fire_held : guards.held worker c ≡ Some finds.ready.number
  fire_held = held_same net may.world c may.round may.stands worker ∙ finds.held

  sound : SoundRound net c.window may.world may.round
  sound = reached_sound net c.window may.world may.round may.reached

  abbrev number : ℕ
  number = finds.ready.number

  sound_host : SoundHost net number finds.member.host
  sound_host = sound_host_is net c.window may.world may.round sound number finds.ready.member finds.is.member_at finds.member.host finds.both.host finds.both.queue

  pub fire_below : (n : ℕ) → guards.held worker c ≡ Some n → n < length c.members.items
  fire_below n held = subst (λ (i : ℕ). i < length c.members.items) (some_is number n (sym fire_held ∙ held)) (below_get c.members.items number finds.member finds.member_at)

  -- the host that the code found
  module _ (n : ℕ) (m : Member) (held : guards.held worker c ≡ Some n) (at : slice_get c.members.items n ≡ Some m) where
    number_is : number ≡ n
    number_is = some_is number n (sym fire_held ∙ held)

    member_is : finds.member ≡ m
    member_is = some_is finds.member m (sym finds.member_at ∙ ap (slice_get c.members.items) number_is ∙ at)

    pub fire_sound : SoundHost net n m.host
    fire_sound = subst (λ (i : ℕ). SoundHost net i m.host) number_is (subst (λ (x : Member). SoundHost net number x.host) member_is sound_host)

  pub fire_worker : (k : Worker) × (slice_get c.workers.items worker ≡ Some k)
  fire_worker = (finds.hand, finds.hand_at)

  -- ---- it may fire

  abbrev h : HostRecord
  h = finds.ready.member.host

  abbrev e : Event
  e = finds.ready.event

  stops : e.key.due.nanos < net.stop.nanos
  stops = due_stop net c may.round may.world may.world may.round e may.stands sound finds.is.due

  back : IsPermutation finds.ready.member.queue finds.member.host.queue
  back = IsPermutation-sym finds.member.host.queue finds.ready.member.queue finds.both.queue

  least : (rest : List Event) × (take_least finds.member.host.queue ≡ Some (e, rest)) × IsPermutation finds.ready.rest rest
  least = take_least_permutation finds.ready.member.queue finds.member.host.queue e finds.ready.rest finds.is.taken back
      (apart_here net c.window may.world may.round sound number finds.ready.member finds.is.member_at)

  may_turn : MayTurn net finds.member
  may_turn = record {
    stop = sound.opened.window.stop;
    event = e;
    rest = least.0;
    taken = least.1;
    due = stops;
    own = (h, finds.both.host, sound_owns net number finds.member.host sound_host h finds.both.host);
  }

  pub fire_may_turn : (n : ℕ) (m : Member) → guards.held worker c ≡ Some n → slice_get c.members.items n ≡ Some m → MayTurn net m
  fire_may_turn n m held at = subst (MayTurn net) (member_is n m held at) may_turn

  -- ---- what it leaves

  module _ (d : Round) (n : ℕ) (m m' : Member) (k k' : Worker) (out : HandedOut) (held : guards.held worker c ≡ Some n) (at : slice_get c.members.items n ≡ Some m) (turns : Turns net m m' out)
      (k_at : slice_get c.workers.items worker ≡ Some k) (same : IsSameRest c d) (members_is : d.members.items ≡ slice_set c.members.items n m') (workers_is : d.workers.items ≡ slice_set c.workers.items worker k')
      (hand_is : k'.hand.items ≡ k.hand.items ++ out.parcels.items) (spill_is : k'.spill ≡ k.spill) (lines_is : d.lines.items ≡ c.lines.items ++ out.lines.items) where
    host_sound : SoundHost net n m.host
    host_sound = fire_sound n m held at

    module _ (w : World HostRecord Line) (r u : Going) (stands : GoingStands net w c r) (leads : steps.fire_host (model net) worker r ≡ Some u) where
      f : FindsHost net worker w c r u
      f = finds_host net worker w c r u stands leads

      abbrev g : HostRecord
      g = f.ready.member.host

      abbrev x : Event
      x = f.ready.event

      place : f.ready.number ≡ n
      place = some_is f.ready.number n (sym f.held ∙ sym (held_same net w c r stands worker) ∙ held)

      m_is : f.member ≡ m
      m_is = some_is f.member m (sym f.member_at ∙ ap (slice_get c.members.items) place ∙ at)

      k_is : f.hand ≡ k
      k_is = some_is f.hand k (sym f.hand_at ∙ k_at)

      both : MemberStands net w f.ready.number m f.ready.member
      both = subst (λ (y : Member). MemberStands net w f.ready.number y f.ready.member) m_is f.both

      carried : WorkerStands net k f.ready.worker
      carried = subst (λ (y : Worker). WorkerStands net y f.ready.worker) k_is f.hand_stands

      turned : Turned net g m m' out
      turned = turns.turned g both.host

      first : (others : List Event) × (take_least f.ready.member.queue ≡ Some (turned.event, others)) × IsPermutation turned.rest others
      first = take_least_permutation m.host.queue f.ready.member.queue turned.event turned.rest turned.taken both.queue host_sound.apart

      taken_is : ◌≡◌ {A = Event × List Event} (turned.event, first.0) (x, f.ready.rest)
      taken_is = some_is (turned.event, first.0) (x, f.ready.rest) (sym first.1 ∙ f.is.taken)

      event_is : turned.event ≡ x
      event_is = ap (λ (p : Event × List Event). p.0) taken_is

      by : TurnedBy net g x turned.rest m m' out
      by = subst (λ (y : Event). TurnedBy net g y turned.rest m m' out) event_is turned.by

      moved : IsPermutation turned.rest f.ready.rest
      moved = subst (IsPermutation turned.rest) (ap (λ (p : Event × List Event). p.1) taken_is) first.2

      stop_due : x.key.due.nanos < net.stop.nanos
      stop_due = due_stop net c r w may.world may.round x stands sound f.is.due

      good : IsHostOf net n g
      good = host_sound.good g both.host

      held_event : (P : Event → Type 0) → All P m.host.queue → P x
      held_event P all = subst P event_is (Each_from_All P m.host.queue all turned.event (take_least_there m.host.queue (turned.event, turned.rest) turned.taken))

      home_is : home net x ≡ n
      home_is = held_event (λ (y : Event). home net y ≡ n) host_sound.home

      abbrev F : Firing
      F = fire net g x

      fits : IsFit (model net) (Some 0) (2 ^ 64 - 1) (IsHostOf net) (IsEventOf net) g x F
      fits =
          subst (λ (y : Firing). IsFit (model net) (Some 0) (2 ^ 64 - 1) (IsHostOf net) (IsEventOf net) g x y) (fires_before_stop_is net g x stop_due)
          (firings_fit net (Some 0) (λ i j latency reliability apart route. omega arith) (omega arith) sound.opened.window.stop g x
          (subst (λ (i : ℕ). IsHostOf net i g) (sym home_is) good) (held_event (IsEventOf net) host_sound.events)
          (held_event (λ (y : Event). g.link.time.nanos ≤ y.key.due.nanos) (host_sound.clock g both.host)))

      sources : Each (λ (y : Event). y.key.source.index ≡ n) F.made
      sources y is = numbered_source (home net x) g.link.next F.made fits.numbered y is ∙ home_is

      number_same : g.link.number ≡ f.ready.number
      number_same = good.number ∙ sym place

      own_same : own_events net g.link.number F.made ≡ order.events_at (model net) f.ready.number F.made
      own_same = ap (λ (i : ℕ). own_events net i F.made) number_same ∙ own_at net f.ready.number F.made

      abbrev new_member : Member'
      new_member = record (f.ready.member) { host = F.host; queue = f.ready.rest ++ order.events_at (model net) f.ready.number F.made }

      abbrev new_worker : order.Worker
      new_worker = record (f.ready.worker) { hand = f.ready.worker.hand ++ sent net f.ready.number F.made }

      rest_home : Each (λ (y : Event). home net y ≡ f.ready.number) turned.rest
      rest_home y is = Each_from_All (λ (z : Event). home net z ≡ f.ready.number) m.host.queue both.home y
          (IsIn_permutation y (turned.event ∷ turned.rest) m.host.queue
          (IsPermutation-sym m.host.queue (turned.event ∷ turned.rest) (take_least_IsPermutation m.host.queue (turned.event, turned.rest) turned.taken)) (inr is))

      own_home : Each (λ (y : Event). home net y ≡ f.ready.number) (own_events net g.link.number F.made)
      own_home y is =
          let there = IsIn_filter_from (λ (z : Event). home net z == f.ready.number) y F.made (subst (λ (l : List Event). IsIn y l) own_same is) in
          (Decides-eqb (home net y) f.ready.number).0 there.1

      at_home : All (λ (y : Event). home net y ≡ f.ready.number) m'.host.queue
      at_home =
          All-permutation (λ (y : Event). home net y ≡ f.ready.number) (turned.rest ++ own_events net g.link.number F.made) m'.host.queue
          (IsPermutation-sym m'.host.queue (turned.rest ++ own_events net g.link.number F.made) by.queue)
          (All_from_Each (λ (y : Event). home net y ≡ f.ready.number) (turned.rest ++ own_events net g.link.number F.made)
          (Each-append (λ (y : Event). home net y ≡ f.ready.number) turned.rest (own_events net g.link.number F.made) rest_home own_home))

      member_stands : MemberStands net w f.ready.number m' new_member
      member_stands = record {
        host = by.host;
        queue = IsPermutation-trans m'.host.queue (turned.rest ++ own_events net g.link.number F.made) new_member.queue by.queue
            (IsPermutation-append turned.rest f.ready.rest (own_events net g.link.number F.made) (order.events_at (model net) f.ready.number F.made) moved (same_order _ _ own_same));
        home = at_home;
        stage = ap stage_of turns.stage ∙ both.stage;
        places = subst (λ (v : Vec (Option Parcel) Global). EachStands (PlaceStands net) v.items f.ready.member.places) (sym turns.places) both.places;
        outputs = ap (λ (l : List Output). l ++ wrote net g x) both.outputs ∙ append_assoc (written_at w f.ready.number) m.outputs.items (wrote net g x)
            ∙ ap (λ (l : List Output). written_at w f.ready.number ++ l) (sym by.outputs);
      }

      parcels_is : out.parcels.items ≡ parcels_of net f.ready.number F.made
      parcels_is = by.parcels ∙ ap (λ (i : ℕ). parcels_of net i F.made) number_same

      worker_stands : WorkerStands net k' new_worker
      worker_stands = record {
        hand = subst (λ (l : List Parcel). ParcelsStand net l new_worker.hand) (sym (hand_is ∙ ap (λ (l : List Parcel). k.hand.items ++ l) parcels_is))
            (parcels_append net k.hand.items (parcels_of net f.ready.number F.made) f.ready.worker.hand (sent net f.ready.number F.made) carried.hand
            (parcels_sent net f.ready.number F.made (λ y is. sources y is ∙ sym place)));
        spill = subst (λ (v : Vec Parcel Global). ParcelsStand net v.items f.ready.worker.spill) (sym spill_is) carried.spill;
      }

      going : GoingStands net w d (steps.after_fire (model net) worker r f.ready F)
      going = changed net w c d r stands same (slice_set r.members f.ready.number new_member) (slice_set r.workers worker new_worker) (steps.after_fire (model net) worker r f.ready F).lines
          (subst (λ (l : List Member). EachStands (MemberStands net w) l (slice_set r.members f.ready.number new_member))
          (ap (λ (i : ℕ). slice_set c.members.items i m') place ∙ sym members_is)
          (pair_set (MemberStands net w) c.members.items r.members stands.members f.ready.number m m' f.ready.member new_member
          (ap (slice_get c.members.items) place ∙ at) f.is.member_at member_stands))
          (subst (λ (l : List Worker). EachStands (λ i. WorkerStands net) l (slice_set r.workers worker new_worker)) (sym workers_is)
          (pair_set (λ i. WorkerStands net) c.workers.items r.workers stands.workers worker k k' f.ready.worker new_worker k_at f.is.worker_at worker_stands))
          (ap lines_of (lines_is ∙ ap (λ (l : List HostLogged). c.lines.items ++ l) by.lines) ∙ lines_more c.lines.items x.key F.lines
          ∙ ap (λ (l : List (order_world.Logged Line)). l ++ order_world.logged x.key F.lines) stands.lines)

      pub fired_going : GoingStands net w d u
      fired_going =
          subst (GoingStands net w d) f.u_is
          (subst (λ (y : Firing). GoingStands net w d (steps.after_fire (model net) worker r f.ready y)) (sym (fires_before_stop_is net g x stop_due)) going)

    pub fired : Does net (fires net worker) c d
    fired = record {
      window = same.window;
      stands = λ w r t stands is.
          let a = from_map (steps.fire_host (model net) worker r) order.Going t is in
          subst (RoundStands net w d) a.2 (fired_going w r a.0 stands a.1);
    }
