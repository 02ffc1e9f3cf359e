-- A round of the world: what it may be opened on, and what it leaves.
use Rattle.std.proofs.Common.{◌≡◌, ℕ, zero, suc, ◌+◌, ◌==◌, ◌<◌, ◌≤◌, inl, inr, ⊎_elim, Bool, true, false, List, [], ◌∷◌, ◌++◌, Option, Some, None, All, map, flat_map, length, get_or, slice_get, refl, sym, ap, subst, ◌∙◌, arith, Vec}
use Rattle.std.specs.Prelude.{if◌then◌else◌}
use Rattle.std.specs.declared.alloc.Global.{Global}
use Rattle.std.proofs.lemmas.List.Sorted.{IsPermutation-sym}
use Rattle.sim_base.specs.declared.event.Event.{Event}
use Rattle.sim_base.specs.declared.event.Parcel.{Parcel}
use Rattle.sim_base.specs.declared.event.What.{What}
use Rattle.sim_base.specs.declared.event.What.TheVariants as what
use Rattle.sim_base.specs.declared.key.Key.{Key}
use Rattle.list_weights.specs.Weights.{weigh}
use Rattle.list_weights.proofs.Weights.{weigh_append}
use Rattle.host_link.specs.declared.line.Line.{Line}
use Rattle.host_link.specs.Net.{Net}
use Rattle.host_state.specs.Fits.{model, IsEventOf, IsHostOf}
use Rattle.host_link.specs.Home.{home, home_of}
use Rattle.host_state.specs.HostRecord.{HostRecord}
use Rattle.host_link.specs.Outbox.{posted, parcels_of}
use Rattle.host_link.specs.Parcels.{parcel_event}
use Rattle.host_state.proofs.Simulations as hosts
use Rattle.world_order.specs.EventOrder.{AreApart, copies, same_key}
use Rattle.world_order.specs.Premises.{Simulation}
use Rattle.world_order.specs.Settled.{IsSettled, next_at, number_of}
use Rattle.world_order.proofs.Apart.{one_if, copies_append, AreApart_permutation, apart_left, apart_right}
use Rattle.world_order.proofs.Homes.{some_is, get_below, below_get}
use Rattle.world_order.proofs.Members.{IsIn, IsIn_left, IsIn_right, IsIn_either, IsIn_permutation, Each, Each_from_All, All_from_Each}
use Rattle.round_lookahead.specs.declared.workers.host_task.HostTask.{HostTask}
use Rattle.round_lookahead.specs.declared.world.world_state.World.{World}
use Rattle.round_parts.specs.Arrivals.{Boxed, arrivals}
use Rattle.round_parts.specs.Rows.{row_arrivals}
use Rattle.round_lookahead.specs.Tasks.{waiting, IsTask, AreTasks, AreTasksOf}
use Rattle.round_lookahead.specs.Works.{HostJob, parcels_made, parcels_by}
use Rattle.round_lookahead.specs.WorldStands.{HostWorld, HasRounds, IsBetweenRounds, StandsAt, WorldStands}
use Rattle.round_lookahead.proofs.SettleSteps.{get_or_is}

-- the hosts of a net, as the laws of rounds want them
abbrev pub simulation : (net : Net) (lookahead : Option ℕ) → HasRounds net lookahead → Simulation HostRecord Line
simulation net lookahead r = hosts.simulation net lookahead r.routes r.short r.stop

pub between_settled : (net : Net) (lookahead : Option ℕ) (r : HasRounds net lookahead) (w : HostWorld) → IsBetweenRounds net w → IsSettled (simulation net lookahead r) w
between_settled net lookahead r w b = record {
  count = b.count;
  apart = b.apart;
  below = b.below;
  events = b.events;
  hosts = b.hosts;
  limited = λ i h at. (b.hosts i h at).limited;
  clock = b.clock;
}

pub settled_between : (net : Net) (lookahead : Option ℕ) (r : HasRounds net lookahead) (w : HostWorld) → IsSettled (simulation net lookahead r) w → IsBetweenRounds net w
settled_between net lookahead r w s = record { count = s.count; apart = s.apart; below = s.below; events = s.events; hosts = s.hosts; clock = s.clock }

-- ---- lists

pub in_part : {X Y : Type 0} (f : X → List Y) (xs : List X) (k : ℕ) (x : X) (y : Y) → slice_get xs k ≡ Some x → IsIn y (f x) → IsIn y (flat_map f xs)
in_part f [] k x y at h = absurd (let e : None ≡ Some x = at in cc)
in_part f (z ∷ zs) zero x y at h = IsIn_left y (f z) (flat_map f zs) (subst (λ u. IsIn y (f u)) (sym (some_is z x at)) h)
in_part f (z ∷ zs) (suc k) x y at h = IsIn_right y (f z) (flat_map f zs) (in_part f zs k x y at h)

pub in_map : {X Y : Type 0} (f : X → Y) (xs : List X) (x : X) → IsIn x xs → IsIn (f x) (map f xs)
in_map f [] x h = absurd h
in_map f (y ∷ ys) x (inl same) = inl (ap f same)
in_map f (y ∷ ys) x (inr h) = inr (in_map f ys x h)

pub of_map : {X Y : Type 0} (f : X → Y) (xs : List X) (y : Y) → IsIn y (map f xs) → (x : X) × IsIn x xs × (y ≡ f x)
of_map f [] y h = absurd h
of_map f (x ∷ xs) y (inl same) = (x, inl refl, same)
of_map f (x ∷ xs) y (inr h) = let r = of_map f xs y h in (r.0, inr r.1, r.2)

-- no two events of a part have the same key
apart_part : {X : Type 0} (f : X → List Event) (xs : List X) (k : ℕ) (x : X) → slice_get xs k ≡ Some x → AreApart (flat_map f xs) → AreApart (f x)
apart_part f [] k x at apart = absurd (let e : None ≡ Some x = at in cc)
apart_part f (y ∷ ys) zero x at apart = subst (λ (z : _). AreApart (f z)) (some_is y x at) (apart_left (f y) (flat_map f ys) apart)
apart_part f (y ∷ ys) (suc k) x at apart = apart_part f ys k x at (apart_right (f y) (flat_map f ys) apart)

-- ---- before the round

module _ (c : World) (w : HostWorld) (stands : WorldStands c w) where
  here_in : (k : ℕ) (t : HostTask) (e : Event) → slice_get c.tasks.items k ≡ Some t → IsIn e (waiting t) → IsIn e w.events
  here_in k t e at h = IsIn_permutation e (flat_map waiting c.tasks.items) w.events stands.events (in_part waiting c.tasks.items k t e at h)

  pub is_task : (k : ℕ) (t : HostTask) (h : HostRecord) → slice_get c.tasks.items k ≡ Some t → slice_get w.hosts k ≡ Some h → IsTask c.net k t h
  is_task k t h at there =
      let s : StandsAt c.net k t h = stands.hosts k t h at there in
      let b = stands.between in
      let good : IsHostOf c.net k h = b.hosts k h there in
      let mine : (P : Event → Type 0) → All P w.events → All P (waiting t) = λ P all. All_from_Each P (waiting t) (λ e g. Each_from_All P w.events all e (here_in k t e at g)) in
      record {
        id = s.id;
        numbered = good.number;
        stands = s.stands;
        owns = record {
          within = subst (λ (n : ℕ). n < length c.net.known.book) (sym good.number) good.within;
          limited = good.limited;
          up = good.up;
          down = good.down;
          events = mine (IsEventOf c.net) b.events;
          home = subst (λ (n : ℕ). All (λ (e : Event). home c.net e ≡ n) (waiting t)) (sym good.number) s.home;
          clock = mine (λ (e : Event). h.link.time.nanos ≤ e.key.due.nanos) (b.clock k h there);
          below = All_from_Each (λ (e : Event). e.key.source.index ≡ h.link.number → e.key.number < h.link.next) (waiting t)
              (λ e g own.
              (let all = Each_from_All (λ (x : Event). x.key.number < next_at (model c.net) w.hosts x.key.source.index) w.events b.below e (here_in k t e at g) in
              subst (λ (o : Option HostRecord). e.key.number < number_of (model c.net) o) (ap (slice_get w.hosts) (own ∙ good.number) ∙ there) all));
        };
        apart = apart_part waiting c.tasks.items k t at
            (AreApart_permutation w.events (flat_map waiting c.tasks.items) (IsPermutation-sym (flat_map waiting c.tasks.items) w.events stands.events) b.apart);
      }

  pub host_at : (k : ℕ) (t : HostTask) → slice_get c.tasks.items k ≡ Some t → (h : HostRecord) × (slice_get w.hosts k ≡ Some h)
  host_at k t at = let below = below_get c.tasks.items k t at in let count = stands.count in get_below w.hosts k (omega arith)

  pub all_tasks : AreTasksOf c.net c.tasks.items
  all_tasks = record {
    count = stands.count ∙ stands.between.count;
    each = λ k t at. (let h = host_at k t at in (h.0, is_task k t h.0 at h.1));
  }

  -- the records by number
  some_host : HostRecord
  some_host = let b = stands.between.count in let some = stands.rounds.some in (get_below w.hosts 0 (omega arith)).0

  pub rec : ℕ → HostRecord
  rec k = get_or w.hosts k some_host

  pub rec_is : (k : ℕ) (h : HostRecord) → slice_get w.hosts k ≡ Some h → h ≡ rec k
  unfolding rec
  rec_is k h at = sym (get_or_is w.hosts k h some_host at)

  pub rec_tasks : AreTasks c.net c.tasks.items rec
  rec_tasks k t at = let h = host_at k t at in subst (IsTask c.net k t) (rec_is k h.0 h.1) (is_task k t h.0 at h.1)

-- ---- packets

-- a packet is for the host at which it fires
posted_to : (net : Net) (source : ℕ) (key : Key) (w : What) (rest : List Parcel) → key.source.index ≡ source → Each (λ (p : Parcel). p.to.index ≡ home net (parcel_event p)) rest
    → Each (λ (p : Parcel). p.to.index ≡ home net (parcel_event p)) (posted (home_of net source w) key w rest)
posted_to net source key (what.Packet packet) rest own each p (inl same) =
    subst (λ (q : Parcel). q.to.index ≡ home net (parcel_event q)) (sym same) (ap (λ (n : ℕ). home_of net n (what.Packet packet)) (sym own))
posted_to net source key (what.Packet packet) rest own each p (inr h) = each p h
posted_to net source key (what.Start q) rest own each p h = each p h
posted_to net source key (what.Go q) rest own each p h = each p h
posted_to net source key (what.Shutdown q) rest own each p h = each p h
posted_to net source key (what.Alarm target serial) rest own each p h = each p h
posted_to net source key (what.Loop packet) rest own each p h = each p h
posted_to net source key what.Up rest own each p h = each p h
posted_to net source key what.Down rest own each p h = each p h

to_if : (net : Net) (p : Parcel) (e : Event) (number : ℕ) (es : List Event) (b : Bool) → Each (λ (q : Parcel). q.to.index ≡ home net (parcel_event q)) (parcels_of net number es)
    → IsIn p (if b then parcels_of net number es else posted (home net e) e.key e.what (parcels_of net number es)) → p.to.index ≡ home net (parcel_event p)
to_if net p e number es true each h = each p h
to_if net p e number es false each h = posted_to net e.key.source.index e.key e.what (parcels_of net number es) refl each p h

parcels_to : (net : Net) (number : ℕ) (es : List Event) → Each (λ (p : Parcel). p.to.index ≡ home net (parcel_event p)) (parcels_of net number es)
parcels_to net number [] p h = absurd h
parcels_to net number (e ∷ es) p h = to_if net p e number es (home net e == number) (parcels_to net number es) h

pub made_to : (net : Net) (js : List HostJob) → Each (λ (p : Parcel). p.to.index ≡ home net (parcel_event p)) (parcels_made net js)
made_to net [] p h = absurd h
made_to net (j ∷ js) p h = ⊎_elim (parcels_to net j.number j.ran.packets p) (made_to net js p) (IsIn_either p (parcels_by net j) (parcels_made net js) h)

-- how often a key is there is a weight
pub key_weight : Key → Parcel → ℕ
key_weight k p = one_if (same_key k p.key)

pub copies_weight : (k : Key) (ps : List Parcel) → copies k (map parcel_event ps) ≡ weigh (key_weight k) ps
unfolding key_weight
copies_weight k [] = refl
copies_weight k (p ∷ ps) = ap (λ (n : ℕ). one_if (same_key k p.key) + n) (copies_weight k ps)

flat_map_map : {X Y Z : Type 0} (f : X → List Y) (g : Y → Z) (xs : List X) → map g (flat_map f xs) ≡ flat_map (λ x. map g (f x)) xs
flat_map_map f g [] = refl
flat_map_map f g (x ∷ xs) = map_both (f x) (flat_map f xs) ∙ ap (λ l. map g (f x) ++ l) (flat_map_map f g xs)
  where
    map_both : (ys zs : List _) → map g (ys ++ zs) ≡ map g ys ++ map g zs
    map_both [] zs = refl
    map_both (y ∷ ys) zs = ap (λ l. g y ∷ l) (map_both ys zs)

pub map_both : {X Y : Type 0} (f : X → Y) (xs ys : List X) → map f (xs ++ ys) ≡ map f xs ++ map f ys
map_both f [] ys = refl
map_both f (x ∷ xs) ys = ap (λ l. f x ∷ l) (map_both f xs ys)

abbrev unbox : Boxed → Parcel
unbox b = b.value

pub unboxed_arrivals : (rows : List (Vec Boxed Global)) → map parcel_event (flat_map (λ (r : Vec Boxed Global). map unbox r.items) rows) ≡ row_arrivals rows
unboxed_arrivals [] = refl
unboxed_arrivals (r ∷ rows) = map_both parcel_event (map unbox r.items) (flat_map (λ (q : Vec Boxed Global). map unbox q.items) rows) ∙ (λ i. boxes r.items i ++ unboxed_arrivals rows i)
  where
    boxes : (bs : List Boxed) → map parcel_event (map unbox bs) ≡ arrivals bs
    boxes [] = refl
    boxes (b ∷ bs) = ap (λ (l : List Event). parcel_event b.value ∷ l) (boxes bs)

pub weigh_flat : {X Y : Type 0} (h : Y → ℕ) (f : X → List Y) (xs : List X) → weigh h (flat_map f xs) ≡ weigh (λ x. weigh h (f x)) xs
weigh_flat h f [] = refl
weigh_flat h f (x ∷ xs) = weigh_append h (f x) (flat_map f xs) ∙ ap (λ (n : ℕ). weigh h (f x) + n) (weigh_flat h f xs)

copies_boxes : (k : Key) (bs : List Boxed) → copies k (arrivals bs) ≡ weigh (λ (b : Boxed). key_weight k b.value) bs
unfolding key_weight
copies_boxes k [] = refl
copies_boxes k (b ∷ bs) = ap (λ (n : ℕ). one_if (same_key k b.value.key) + n) (copies_boxes k bs)

pub copies_rows : (k : Key) (rows : List (Vec Boxed Global)) → copies k (row_arrivals rows) ≡ weigh (λ (r : Vec Boxed Global). weigh (λ (b : Boxed). key_weight k b.value) r.items) rows
copies_rows k [] = refl
copies_rows k (r ∷ rows) =
    let both = copies_append k (arrivals r.items) (row_arrivals rows) in
    let here = copies_boxes k r.items in
    let rest = copies_rows k rows in
    omega arith
