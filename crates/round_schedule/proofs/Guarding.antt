-- A step is allowed in a round where it is in what the round stands for.
use Rattle.std.proofs.Common.{◌≡◌, ℕ, zero, suc, ◌+◌, inl, arith, Bool, true, false, ◌&&◌, not, is_none, is_some, List, [], ◌∷◌, length, map, Option, Some, None, option_map, option_and_then, slice_get, nat_lt, refl, sym, ap, subst, ◌∙◌, IsPermutation}
use Rattle.std.specs.Prelude.{position}
use Rattle.std.specs.List.{list_all}
use Rattle.std.proofs.lemmas.List.Sorted.{list_any-IsPermutation}
use Rattle.sim_base.specs.declared.event.Event.{Event}
use Rattle.sim_base.specs.declared.event.Parcel.{Parcel}
use Rattle.host_link.specs.declared.line.Line.{Line}
use Rattle.host_link.specs.Net.{Net}
use Rattle.host_state.specs.Fits.{model}
use Rattle.host_link.specs.Home.{home}
use Rattle.host_state.specs.HostRecord.{HostRecord}
use Rattle.host_link.specs.Parcels.{parcel_event}
use Rattle.world_order.specs.EventOrder.{take_least}
use Rattle.world_order.specs.Round as order
use Rattle.world_order.specs.Steps as steps
use Rattle.world_order.specs.World.{World}
use Rattle.world_order.specs.declared.step.Spot.{Spot}
use Rattle.world_order.specs.declared.step.Spot.TheVariants.{Place, Spill}
use Rattle.world_order.specs.declared.step.Step.{Step}
use Rattle.world_order.specs.declared.step.Step.TheVariants.{Take, Fire, Put, Back, Close}
use Rattle.world_order.proofs.Members.{Each_from_All}
use Rattle.round_schedule.specs.inside.Guards.{passes, is_in_hand, is_waiting, is_done, has_due, is_free, held, in_hand, first_of, first_packet, may_take, may_fire, may_put_at, may_put, is_over, may_give_back, may_close}
use Rattle.round_schedule.specs.Reaching.{State, Going}
use Rattle.round_schedule.specs.Standing.{EachStands, ParcelsStand, PlaceStands, MemberStands, WorkerStands, GoingStands, RoundStands, stage_of, written_at}
use Rattle.round_schedule.specs.declared.member.Member.{Member}
use Rattle.round_schedule.specs.declared.member.Worker.{Worker}
use Rattle.round_schedule.specs.declared.round.Round.{Round}
use Rattle.round_schedule.proofs.Dues.{least_due}
use Rattle.round_schedule.proofs.Pairs.{pair_weaker, pair_first, pair_rest, held_position, all-same}

-- ---- what is at a place of two lists

abbrev BothAt : {C X : Type 0} → (C → X → Type 0) → Option C → Option X → Type 0
BothAt R None None = Unit {0}
BothAt R (Some c) (Some x) = R c x
BothAt R _ _ = ⊥

both-at : {C X : Type 0} (R : ℕ → C → X → Type 0) (cs : List C) (xs : List X) → EachStands R cs xs → (i : ℕ) → BothAt (R i) (slice_get cs i) (slice_get xs i)
both-at R [] [] pairs i = tt
both-at R [] (x ∷ xs) pairs i = absurd (let count = pairs.count in omega arith)
both-at R (c ∷ cs) [] pairs i = absurd (let count = pairs.count in omega arith)
both-at R (c ∷ cs) (x ∷ xs) pairs zero = pair_first R c x cs xs pairs
both-at R (c ∷ cs) (x ∷ xs) pairs (suc i) = both-at (λ j. R (suc j)) cs xs (pair_rest R c x cs xs pairs) i

there-same : {C X : Type 0} (R : C → X → Type 0) (o : Option C) (p : Option X) → BothAt R o p → is_some o ≡ is_some p
there-same R None None both = refl
there-same R None (Some x) both = absurd both
there-same R (Some c) None both = absurd both
there-same R (Some c) (Some x) both = refl

passes_same : {C X : Type 0} (R : C → X → Type 0) (f : C → Bool) (g : X → Bool) (o : Option C) (p : Option X) → ((c : C) (x : X) → R c x → f c ≡ g x) → BothAt R o p → passes f o ≡ passes g p
passes_same R f g None None same both = refl
passes_same R f g None (Some x) same both = absurd both
passes_same R f g (Some c) None same both = absurd both
passes_same R f g (Some c) (Some x) same both = same c x both

-- ---- the definition's guards, in one piece each

given_some : {A : Type 0} (b : Bool) (a : A) → is_some (steps.given b a) ≡ b
given_some true a = refl
given_some false a = refl

map_some : {A B : Type 0} (f : A → B) (o : Option A) → is_some (option_map f o) ≡ is_some o
map_some f None = refl
map_some f (Some a) = refl

then_some : {A B : Type 0} (f : A → Option B) (o : Option A) → is_some (option_and_then f o) ≡ passes (λ a. is_some (f a)) o
then_some f None = refl
then_some f (Some a) = refl

abbrev Member' : Type 0
Member' = order.Member HostRecord

abbrev host_in : ℕ → Going → Option Member'
host_in w r = option_and_then (slice_get r.members) (steps.held w r.members)

take_by : {A : Type 0} (o : Option order.Worker) (p : Option Member') (b : Bool) (f : Member' → A)
    → is_some (option_and_then (λ (worker : order.Worker). option_and_then (λ (x : Member'). steps.given (steps.is_waiting x.stage && b) (f x)) p) o)
    ≡ (is_some o && passes (λ (x : Member'). steps.is_waiting x.stage) p && b)
take_by None None b f = refl
take_by None (Some x) b f = refl
take_by (Some worker) None b f = refl
take_by (Some worker) (Some x) b f = given_some (steps.is_waiting x.stage && b) (f x)

none_and : {X : Type 0} (o : Option X) → (is_some o && false) ≡ false
none_and None = refl
none_and (Some x) = refl

ready_by : {A : Type 0} (members : List Member') (h : Option ℕ) (o : Option order.Worker) (end : ℕ) (f : ℕ → Member' → order.Worker → Event × List Event → A)
    → is_some (option_and_then (λ (n : ℕ). option_and_then (λ (x : Member'). option_and_then (λ (worker : order.Worker). option_and_then (λ (t : Event × List Event). steps.given (nat_lt t.0.key.due.nanos end) (f n x worker t)) (take_least x.queue)) o) (slice_get members n)) h)
    ≡ (is_some o && passes (λ (x : Member'). steps.has_due end x.queue) (option_and_then (slice_get members) h))
ready_by members None o end f = sym (none_and o)
ready_by members (Some n) o end f = by_member (slice_get members n) o
  where
    by_member : (p : Option Member') (o : Option order.Worker)
        → is_some (option_and_then (λ (x : Member'). option_and_then (λ (worker : order.Worker). option_and_then (λ (t : Event × List Event). steps.given (nat_lt t.0.key.due.nanos end) (f n x worker t)) (take_least x.queue)) o) p)
        ≡ (is_some o && passes (λ (x : Member'). steps.has_due end x.queue) p)
    by_member None None = refl
    by_member None (Some worker) = refl
    by_member (Some x) None = refl
    by_member (Some x) (Some worker) = least_due end x.queue (λ t. f n x worker t) (take_least x.queue) refl

back_by : {A : Type 0} (members : List Member') (h : Option ℕ) (o : Option order.Worker) (end : ℕ) (f : ℕ → Member' → A)
    → is_some (option_and_then (λ (n : ℕ). option_and_then (λ (x : Member'). option_and_then (λ (worker : order.Worker). steps.given (not (steps.has_due end x.queue) && steps.is_empty worker.hand) (f n x)) o) (slice_get members n)) h)
    ≡ (passes (λ (x : Member'). not (steps.has_due end x.queue)) (option_and_then (slice_get members) h) && passes (λ (worker : order.Worker). steps.is_empty worker.hand) o)
back_by members None o end f = refl
back_by members (Some n) o end f = by_member (slice_get members n) o
  where
    both : (b : Bool) → (b && false) ≡ false
    both true = refl
    both false = refl

    by_member : (p : Option Member') (o : Option order.Worker)
        → is_some (option_and_then (λ (x : Member'). option_and_then (λ (worker : order.Worker). steps.given (not (steps.has_due end x.queue) && steps.is_empty worker.hand) (f n x)) o) p)
        ≡ (passes (λ (x : Member'). not (steps.has_due end x.queue)) p && passes (λ (worker : order.Worker). steps.is_empty worker.hand) o)
    by_member None o = refl
    by_member (Some x) None = sym (both (not (steps.has_due end x.queue)))
    by_member (Some x) (Some worker) = given_some (not (steps.has_due end x.queue) && steps.is_empty worker.hand) (f n x)

place_by : {A : Type 0} (place : ℕ) (p : Option Member') (f : Member' → A)
    → is_some (option_and_then (λ (x : Member'). option_and_then (λ (kept : Option Event). steps.given (is_none kept) (f x)) (slice_get x.places place)) p)
    ≡ passes (λ (x : Member'). passes is_none (slice_get x.places place)) p
place_by place None f = refl
place_by place (Some x) f = by_place (slice_get x.places place)
  where
    by_place : (o : Option (Option Event)) → is_some (option_and_then (λ (kept : Option Event). steps.given (is_none kept) (f x)) o) ≡ passes is_none o
    by_place None = refl
    by_place (Some kept) = given_some (is_none kept) (f x)

-- ---- what a round tells is what it stands for

module _ (net : Net) (w : World HostRecord Line) (c : Round) (r : Going) (stands : GoingStands net w c r) where
  abbrev Both : ℕ → Member → Member' → Type 0
  Both i m x = MemberStands net w i m x

  due_same : (i : ℕ) (m : Member) (x : Member') → Both i m x → has_due c.window.end.nanos m ≡ steps.has_due r.end x.queue
  due_same i m x both =
      ap (λ (end : ℕ). steps.has_due end m.host.queue) stands.end
      ∙ list_any-IsPermutation (λ (e : Event). nat_lt e.key.due.nanos r.end) m.host.queue x.queue both.queue

  pub held_same : (worker : ℕ) → held worker c ≡ steps.held worker r.members
  held_same worker = held_position worker (is_in_hand worker) c.members.items r.members
      (pair_weaker Both (λ i (m : Member) (x : Member'). is_in_hand worker m ≡ steps.is_held worker x.stage) c.members.items r.members
      (λ i m x both. ap (steps.is_held worker) both.stage) stands.members)

  hand_by : (h : Option ℕ) (f : Member → Bool) (g : Member' → Bool) → ((i : ℕ) (m : Member) (x : Member') → Both i m x → f m ≡ g x)
      → passes f (option_and_then (slice_get c.members.items) h) ≡ passes g (option_and_then (slice_get r.members) h)
  hand_by None f g same = refl
  hand_by (Some n) f g same = passes_same (Both n) f g (slice_get c.members.items n) (slice_get r.members n) (same n) (both-at Both c.members.items r.members stands.members n)

  hand_same : (worker : ℕ) (f : Member → Bool) (g : Member' → Bool) → ((i : ℕ) (m : Member) (x : Member') → Both i m x → f m ≡ g x)
      → passes f (in_hand worker c) ≡ passes g (host_in worker r)
  hand_same worker f g same =
      ap (λ (h : Option ℕ). passes f (option_and_then (slice_get c.members.items) h)) (held_same worker) ∙ hand_by (steps.held worker r.members) f g same

  worker_same : (worker : ℕ) → is_some (slice_get c.workers.items worker) ≡ is_some (slice_get r.workers worker)
  worker_same worker = there-same (WorkerStands net) (slice_get c.workers.items worker) (slice_get r.workers worker)
      (both-at (λ i. WorkerStands net) c.workers.items r.workers stands.workers worker)

  take_same : (worker host : ℕ) → may_take worker host c ≡ is_some (steps.take_host worker host r)
  take_same worker host =
      ap (λ (b : Bool). b && passes is_waiting (slice_get c.members.items host) && is_none (held worker c)) (worker_same worker)
      ∙ ap (λ (b : Bool). is_some (slice_get r.workers worker) && b && is_none (held worker c))
      (passes_same (Both host) is_waiting (λ (x : Member'). steps.is_waiting x.stage) (slice_get c.members.items host) (slice_get r.members host)
      (λ m x both. ap steps.is_waiting both.stage) (both-at Both c.members.items r.members stands.members host))
      ∙ ap (λ (h : Option ℕ). is_some (slice_get r.workers worker) && passes (λ (x : Member'). steps.is_waiting x.stage) (slice_get r.members host) && is_none h) (held_same worker)
      ∙ sym (take_by (slice_get r.workers worker) (slice_get r.members host) (is_none (steps.held worker r.members)) _)

  fire_same : (worker : ℕ) → may_fire worker c ≡ is_some (steps.ready worker r)
  fire_same worker =
      ap (λ (b : Bool). b && passes (has_due c.window.end.nanos) (in_hand worker c)) (worker_same worker)
      ∙ ap (λ (b : Bool). is_some (slice_get r.workers worker) && b) (hand_same worker (has_due c.window.end.nanos) (λ (x : Member'). steps.has_due r.end x.queue) due_same)
      ∙ sym (ready_by r.members (steps.held worker r.members) (slice_get r.workers worker) r.end _)

  back_same : (worker : ℕ) → may_give_back worker c ≡ is_some (steps.give_back worker r)
  back_same worker =
      ap (λ (b : Bool). b && passes (λ (m : Worker). steps.is_empty m.hand.items) (slice_get c.workers.items worker))
      (hand_same worker (λ (m : Member). not (has_due c.window.end.nanos m)) (λ (x : Member'). not (steps.has_due r.end x.queue)) (λ i m x both. ap not (due_same i m x both)))
      ∙ ap (λ (b : Bool). passes (λ (x : Member'). not (steps.has_due r.end x.queue)) (host_in worker r) && b)
      (passes_same (WorkerStands net) (λ (m : Worker). steps.is_empty m.hand.items) (λ (x : order.Worker). steps.is_empty x.hand) (slice_get c.workers.items worker) (slice_get r.workers worker)
      (λ m x both. empty_same m.hand.items x.hand both.hand.events) (both-at (λ i. WorkerStands net) c.workers.items r.workers stands.workers worker))
      ∙ sym (back_by r.members (steps.held worker r.members) (slice_get r.workers worker) r.end _)
    where
      empty_same : (ps : List Parcel) (es : List Event) → map parcel_event ps ≡ es → steps.is_empty ps ≡ steps.is_empty es
      empty_same [] es is = ap steps.is_empty is
      empty_same (p ∷ ps) es is = ap steps.is_empty is

  close_same : may_close c ≡ is_some (steps.close_round r)
  close_same =
      all-same is_done (λ (x : Member'). steps.is_done x.stage) c.members.items r.members
      (pair_weaker Both (λ i (m : Member) (x : Member'). is_done m ≡ steps.is_done x.stage) c.members.items r.members (λ i m x both. ap steps.is_done both.stage) stands.members)
      ∙ sym (given_some (list_all (λ (x : Member'). steps.is_done x.stage) r.members) (order.world_of r))

  -- a place
  free_same : (i : ℕ) (place : ℕ) (m : Member) (x : Member') → Both i m x → is_free place m ≡ passes is_none (slice_get x.places place)
  free_same i place m x both =
      passes_same (PlaceStands net place) is_none is_none (slice_get m.places.items place) (slice_get x.places place) kept (both-at (PlaceStands net) m.places.items x.places both.places place)
    where
      kept : (o : Option Parcel) (p : Option Event) → PlaceStands net place o p → is_none o ≡ is_none p
      kept None None at = refl
      kept None (Some e) at = absurd at
      kept (Some q) None at = absurd at
      kept (Some q) (Some e) at = refl

  put_at_same : (worker : ℕ) (x : order.Worker) (spot : Spot) (p : Parcel) (rest : List Event) → p.to.index ≡ home net (parcel_event p)
      → may_put_at spot c p ≡ is_some (steps.put_at (model net) worker x (parcel_event p) rest spot r)
  put_at_same worker x Spill p rest at = refl
  put_at_same worker x (Place place) p rest at =
      ap (λ (n : ℕ). passes (is_free place) (slice_get c.members.items n)) at
      ∙ passes_same (Both (home net (parcel_event p))) (is_free place) (λ (y : Member'). passes is_none (slice_get y.places place))
      (slice_get c.members.items (home net (parcel_event p))) (slice_get r.members (home net (parcel_event p)))
      (λ m y both. free_same (home net (parcel_event p)) place m y both) (both-at Both c.members.items r.members stands.members (home net (parcel_event p)))
      ∙ sym (place_by place (slice_get r.members (home net (parcel_event p))) _)

  put_hand : (worker : ℕ) (x : order.Worker) (spot : Spot) (ps : List Parcel) (es : List Event) → ParcelsStand net ps es
      → passes (may_put_at spot c) (slice_get ps 0) ≡ is_some (option_and_then (λ (t : Event × List Event). steps.put_at (model net) worker x t.0 t.1 spot r) (steps.first es))
  put_hand worker x spot [] es stand = ap (λ (l : List Event). is_some (option_and_then (λ (t : Event × List Event). steps.put_at (model net) worker x t.0 t.1 spot r) (steps.first l))) stand.events
  put_hand worker x spot (p ∷ ps) es stand =
      put_at_same worker x spot p (map parcel_event ps) (Each_from_All (λ (q : Parcel). q.to.index ≡ home net (parcel_event q)) (p ∷ ps) stand.home p (inl refl))
      ∙ ap (λ (l : List Event). is_some (option_and_then (λ (t : Event × List Event). steps.put_at (model net) worker x t.0 t.1 spot r) (steps.first l))) stand.events

  put_by : (worker : ℕ) (spot : Spot) (o : Option Worker) (p : Option order.Worker) → BothAt (WorkerStands net) o p
      → passes (may_put_at spot c) (option_and_then first_of o)
      ≡ is_some (option_and_then (λ (x : order.Worker). option_and_then (λ (t : Event × List Event). steps.put_at (model net) worker x t.0 t.1 spot r) (steps.first x.hand)) p)
  put_by worker spot None None both = refl
  put_by worker spot None (Some x) both = absurd both
  put_by worker spot (Some m) None both = absurd both
  put_by worker spot (Some m) (Some x) both = put_hand worker x spot m.hand.items x.hand both.hand

  put_same : (worker : ℕ) (spot : Spot) → may_put worker spot c ≡ is_some (steps.put_packet (model net) worker spot r)
  put_same worker spot = put_by worker spot (slice_get c.workers.items worker) (slice_get r.workers worker) (both-at (λ i. WorkerStands net) c.workers.items r.workers stands.workers worker)

-- ---- any step

abbrev pub may_step : Step → Round → Bool
may_step (Take worker host) c = may_take worker host.index c
may_step (Fire worker) c = may_fire worker c
may_step (Put worker spot) c = may_put worker spot c
may_step (Back worker) c = may_give_back worker c
may_step Close c = may_close c

going_allowed : (net : Net) (w : World HostRecord Line) (c : Round) (r : Going) (step : Step) → GoingStands net w c r → may_step step c ≡ is_some (steps.after_step (model net) step r)
going_allowed net w c r (Take worker host) stands = take_same net w c r stands worker host.index ∙ sym (map_some order.Going (steps.take_host worker host.index r))
going_allowed net w c r (Fire worker) stands =
    fire_same net w c r stands worker ∙ ready_fires (steps.ready worker r) ∙ sym (map_some order.Going (steps.fire_host (model net) worker r))
  where
    ready_fires : (o : Option (steps.Ready HostRecord)) → is_some o ≡ is_some (option_and_then (λ (t : steps.Ready HostRecord). Some (steps.after_fire (model net) worker r t ((model net).fire t.number t.member.host t.event))) o)
    ready_fires None = refl
    ready_fires (Some t) = refl
going_allowed net w c r (Put worker spot) stands = put_same net w c r stands worker spot ∙ sym (map_some order.Going (steps.put_packet (model net) worker spot r))
going_allowed net w c r (Back worker) stands = back_same net w c r stands worker ∙ sym (map_some order.Going (steps.give_back worker r))
going_allowed net w c r Close stands = close_same net w c r stands ∙ sym (map_some order.Closed (steps.close_round r))

-- a round that isn't closed
pub unclosed_allowed : (c : Round) (step : Step) → c.closed ≡ false → (net : Net) (w : World HostRecord Line) (s : State) → RoundStands net w c s → may_step step c ≡ steps.is_allowed (model net) step s
unfolding steps.after
unclosed_allowed c step unclosed net w (order.Going r) stands = going_allowed net w c r step stands
unclosed_allowed c step unclosed net w (order.Closed v) stands = absurd (let e : false ≡ true = sym unclosed ∙ stands.closed in cc)

-- a closed one
pub closed_allowed : (c : Round) (step : Step) → c.closed ≡ true → (net : Net) (w : World HostRecord Line) (s : State) → RoundStands net w c s → false ≡ steps.is_allowed (model net) step s
unfolding steps.after
closed_allowed c step closed net w (order.Going r) stands = absurd (let e : true ≡ false = sym closed ∙ stands.unclosed in cc)
closed_allowed c step closed net w (order.Closed v) stands = refl
