-- A host that is run up to the end in one go is a list of steps, each allowed in its turn; so is a round of such runs.
use Rattle.std.proofs.Common.{◌≡◌, ◌≢◌, ℕ, zero, suc, ◌<◌, ◌⊎◌, inl, inr, ⊎_elim, Bool, true, false, ◌&&◌, not, ◌==◌, List, [], ◌∷◌, ◌++◌, Option, Some, None, option_map, option_and_then, is_none, map, flat_map, filter, replicate, length, slice_get, slice_set, nat_lt, refl, sym, ap, subst, ◌∙◌, arith, rules, append_assoc, append-nil, set-set, eq-eqb, Contains, length-set}
use Rattle.std.specs.List.{list_all}
use Rattle.std.specs.Prelude.{if◌then◌else◌}
use Rattle.std.proofs.lemmas.Bool.{cases_eq}
use Rattle.sim_base.specs.declared.event.Event.{Event}
use Rattle.world_order.specs.EventOrder.{take_least}
use Rattle.world_order.specs.Model.{Model, Fired}
use Rattle.world_order.specs.Round.{Stage, InHand, Done, Member, Worker, Round, State, Going, Closed, events_at, opened, opened_from, world_of}
use Rattle.world_order.specs.Schedule.{after_all}
use Rattle.world_order.specs.Steps.{given, is_waiting, is_done, is_held, is_empty, has_due, first, held, Ready, ready, with_member, with_worker, take_host, after_fire, put_packet, put_spill, give_back, goes, after, after_step}
use Rattle.world_order.specs.WholeTurns.{Ran, unfired, fired_first, RunsTo, rests, goes as fires_on, Job, job_steps, after_job, WorksTo, are_done, works}
use Rattle.world_order.specs.World.{World, logged}
use Rattle.world_order.specs.declared.step.Spot.TheVariants.{Spill}
use Rattle.world_order.specs.declared.step.Step.{Step}
use Rattle.world_order.specs.declared.step.Step.TheVariants.{Take, Fire, Put, Back, Close}
use Rattle.world_order.proofs.Homes.{some_is, get_set_same, get_set_other, below_get}
use Rattle.world_order.proofs.Members.{IsIn, IsIn_from_Contains}

set_itself : {X : Type 0} (xs : List X) (i : ℕ) (x : X) → slice_get xs i ≡ Some x → slice_set xs i x ≡ xs
set_itself [] i x at = refl
set_itself (y ∷ ys) zero x at = λ k. sym (some_is y x at) k ∷ ys
set_itself (y ∷ ys) (suc i) x at = λ k. y ∷ set_itself ys i x at k

all_from : {X : Type 0} (p : X → Bool) (x : X) (xs : List X) → p x ≡ true → list_all p xs ≡ true → (p x && list_all p xs) ≡ true
all_from p x xs here rest = ap (λ (b : Bool). b && list_all p xs) here ∙ rest

-- what each passes all pass
all_from_is : {X : Type 0} (p : X → Bool) (xs : List X) → ((i : ℕ) (x : X) → slice_get xs i ≡ Some x → p x ≡ true) → list_all p xs ≡ true
all_from_is p [] each = refl
all_from_is p (x ∷ xs) each = all_from p x xs (each 0 x refl) (all_from_is p xs (λ i y at. each (suc i) y at))

-- ---- who is in hand

none_by : (b : Bool) (o : Option ℕ) → (if b then Some 0 else option_map suc o) ≡ None → (b ≡ false) × (o ≡ None)
none_by true o is = absurd (cc)
none_by false None is = (refl, refl)
none_by false (Some i) is = absurd (cc)

taken_by : (w : ℕ) (s : Stage) (o : Option ℕ) (i : ℕ) → is_held w s ≡ false → o ≡ Some i → (if is_held w s then Some 0 else option_map suc o) ≡ Some (suc i)
taken_by w s o i is at = ap (λ (b : Bool). if b then Some 0 else option_map suc o) is ∙ ap (option_map suc) at

module _ {H : Type 0} where
  held_step : (w : ℕ) (s t : Stage) (xs ys : List (Member H)) → s ≡ t → held w xs ≡ held w ys
      → (if is_held w s then Some 0 else option_map suc (held w xs)) ≡ (if is_held w t then Some 0 else option_map suc (held w ys))
  held_step w s t xs ys same more = λ k. if is_held w (same k) then Some 0 else option_map suc (more k)

  -- a host that stays in its stage
  held_same : (w : ℕ) (xs : List (Member H)) (i : ℕ) (x y : Member H) → slice_get xs i ≡ Some x → y.stage ≡ x.stage → held w (slice_set xs i y) ≡ held w xs
  held_same w [] i x y at same = refl
  held_same w (z ∷ zs) zero x y at same = held_step w y.stage z.stage zs zs (same ∙ ap (λ (u : Member H). u.stage) (sym (some_is z x at))) refl
  held_same w (z ∷ zs) (suc i) x y at same = held_step w z.stage z.stage (slice_set zs i y) zs refl (held_same w zs i x y at same)

  held_by : (w : ℕ) (s : Stage) (xs : List (Member H)) → is_held w s ≡ false → held w xs ≡ None → (if is_held w s then Some 0 else option_map suc (held w xs)) ≡ None
  held_by w s xs is none = ap (λ (b : Bool). if b then Some 0 else option_map suc (held w xs)) is ∙ ap (option_map suc) none

  -- a host that is put down, or taken by another
  held_none : (w : ℕ) (xs : List (Member H)) (i : ℕ) (y : Member H) → held w xs ≡ None → is_held w y.stage ≡ false → held w (slice_set xs i y) ≡ None
  held_none w [] i y none is = none
  held_none w (z ∷ zs) zero y none is = held_by w y.stage zs is (none_by (is_held w z.stage) (held w zs) none).1
  held_none w (z ∷ zs) (suc i) y none is =
      let n = none_by (is_held w z.stage) (held w zs) none in
      held_by w z.stage (slice_set zs i y) n.0 (held_none w zs i y n.1 is)

  -- a host that is taken
  held_taken : (w : ℕ) (xs : List (Member H)) (i : ℕ) (x y : Member H) → held w xs ≡ None → slice_get xs i ≡ Some x → is_held w y.stage ≡ true → held w (slice_set xs i y) ≡ Some i
  held_taken w [] i x y none at is = absurd (let e : None ≡ Some x = at in cc)
  held_taken w (z ∷ zs) zero x y none at is = ap (λ (b : Bool). if b then Some 0 else option_map suc (held w zs)) is
  held_taken w (z ∷ zs) (suc i) x y none at is =
      let n = none_by (is_held w z.stage) (held w zs) none in
      taken_by w z.stage (held w (slice_set zs i y)) i n.0 (held_taken w zs i x y n.1 at is)

-- ---- where `do` leads

then_is : {A B : Type 0} (o : Option A) (f : A → Option B) (a : A) → o ≡ Some a → option_and_then f o ≡ f a
then_is o f a is = ap (option_and_then f) is

given_is : {A : Type 0} (guard : Bool) (a : A) → guard ≡ true → given guard a ≡ Some a
given_is guard a is = ap (λ (b : Bool). given b a) is

module _ {H L : Type 0} (m : Model H L) where
  -- one list of steps after another
  pub after_all_append : (steps more : List Step) (s t : State H L) → after_all m steps s ≡ Some t → after_all m (steps ++ more) s ≡ after_all m more t
  unfolding after_all
  after_all_append [] more s t is = ap (after_all m more) (some_is s t is)
  after_all_append (step ∷ steps) more s t is = by_next (after m step s) is (λ u rest. after_all_append steps more u t rest)
    where
      by_next : (o : Option (State H L)) → option_and_then (after_all m steps) o ≡ Some t → ((u : State H L) → after_all m steps u ≡ Some t → after_all m (steps ++ more) u ≡ after_all m more t)
          → option_and_then (after_all m (steps ++ more)) o ≡ after_all m more t
      by_next None is rest = absurd (let e : None ≡ Some t = is in cc)
      by_next (Some u) is rest = rest u is

  pub after_all_cons : (step : Step) (steps : List Step) (s t : State H L) → after m step s ≡ Some t → after_all m (step ∷ steps) s ≡ after_all m steps t
  unfolding after_all
  after_all_cons step steps s t is = ap (option_and_then (after_all m steps)) is

  after_going : (step : Step) (r : Round H L) → after m step (Going r) ≡ after_step m step r
  unfolding after
  after_going step r = refl

  none_all : (s : State H L) → after_all m [] s ≡ Some s
  unfolding after_all
  none_all s = refl

  -- ---- Take

  take_is : (w number : ℕ) (r : Round H L) (x : Member H) (worker : Worker) → slice_get r.members number ≡ Some x → is_waiting x.stage ≡ true → slice_get r.workers w ≡ Some worker
      → held w r.members ≡ None → after m (Take w (record { index = number })) (Going r) ≡ Some (Going (with_member number (record x { stage = InHand w }) r))
  take_is w number r x worker at waits there none =
      let u : Round H L = with_member number (record x { stage = InHand w }) r in
      let guard : (is_waiting x.stage && is_none (held w r.members)) ≡ true = ap (λ (b : Bool). b && is_none (held w r.members)) waits ∙ ap (λ (o : Option ℕ). is_none o) none in
      let taken : take_host w number r ≡ Some u = then_is (slice_get r.workers w) _ worker there ∙ then_is (slice_get r.members number) _ x at ∙ given_is (is_waiting x.stage && is_none (held w r.members)) u guard in
      after_going (Take w (record { index = number })) r ∙ ap goes taken

  -- ---- Fire

  fire_is : (w : ℕ) (r : Round H L) (t : Ready H) → held w r.members ≡ Some t.number → slice_get r.members t.number ≡ Some t.member → slice_get r.workers w ≡ Some t.worker
      → take_least t.member.queue ≡ Some (t.event, t.rest) → t.event.key.due.nanos < r.end
      → after m (Fire w) (Going r) ≡ Some (Going (after_fire m w r t (m.fire t.number t.member.host t.event)))
  fire_is w r t hand at there taken due =
      let due_is : nat_lt t.event.key.due.nanos r.end ≡ true = search rules in
      let ready_is : ready w r ≡ Some t =
      then_is (held w r.members) _ t.number hand ∙ then_is (slice_get r.members t.number) _ t.member at ∙ then_is (slice_get r.workers w) _ t.worker there
      ∙ then_is (take_least t.member.queue) _ (t.event, t.rest) taken ∙ given_is (nat_lt t.event.key.due.nanos r.end) t due_is in
      after_going (Fire w) r ∙ ap goes (then_is (ready w r) _ t ready_is)

  -- the round when a host in hand has been run up to the end
  abbrev ran_round : ℕ → ℕ → Member H → Worker → Ran H L → Round H L → Round H L
  ran_round w number x worker ran r = record {
    end = r.end;
    members = slice_set r.members number (record x { host = ran.host; queue = ran.queue });
    workers = slice_set r.workers w (record worker { hand = worker.hand ++ ran.packets });
    lines = r.lines ++ ran.lines;
  }

  -- one firing more
  ran_more : (w number : ℕ) (r : Round H L) (x : Member H) (worker : Worker) (e : Event) (rest : List Event) (more : Ran H L) (f : Fired H L)
      → (let t : Ready H = record { number = number; member = x; worker = worker; event = e; rest = rest } in
      ran_round w number (record x { host = f.host; queue = rest ++ events_at m number f.made }) (record worker { hand = worker.hand ++ filter (λ g. not (m.home g == number)) f.made }) more (after_fire m w r t f))
      ≡ ran_round w number x worker (fired_first m number e f more) r
  ran_more w number r x worker e rest more f =
      let packets : List Event = filter (λ g. not (m.home g == number)) f.made in
      let members = set-set r.members number (record x { host = f.host; queue = rest ++ events_at m number f.made }) (record x { host = more.host; queue = more.queue }) in
      let workers = set-set r.workers w (record worker { hand = worker.hand ++ packets }) (record worker { hand = (worker.hand ++ packets) ++ more.packets }) in
      let hand : slice_set r.workers w (record worker { hand = (worker.hand ++ packets) ++ more.packets }) ≡ slice_set r.workers w (record worker { hand = worker.hand ++ (packets ++ more.packets) }) =
      ap (λ (h : List Event). slice_set r.workers w (record worker { hand = h })) (append_assoc worker.hand packets more.packets) in
      let carried = workers ∙ hand in
      let lines = append_assoc r.lines (logged e.key f.lines) more.lines in
      λ k. record { end = r.end; members = members k; workers = carried k; lines = lines k }

  fires_all : (w number end : ℕ) (host : H) (queue : List Event) (ran : Ran H L) (r : Round H L) (x : Member H) (worker : Worker) → r.end ≡ end → x.host ≡ host → x.queue ≡ queue
      → held w r.members ≡ Some number → slice_get r.members number ≡ Some x → slice_get r.workers w ≡ Some worker → RunsTo m number end host queue ran
      → after_all m (replicate (length ran.fired) (Fire w)) (Going r) ≡ Some (Going (ran_round w number x worker ran r))
  fires_all w number end host queue ran r x worker end_is host_is queue_is hand at there (rests host' queue' none) =
      let members : slice_set r.members number (record x { host = host; queue = queue }) ≡ r.members =
      ap (λ (h : H). slice_set r.members number (record x { host = h; queue = queue })) (sym host_is)
      ∙ ap (λ (q : List Event). slice_set r.members number (record x { queue = q })) (sym queue_is)
      ∙ set_itself r.members number x at in
      let workers : slice_set r.workers w (record worker { hand = worker.hand ++ [] }) ≡ r.workers =
      ap (λ (h : List Event). slice_set r.workers w (record worker { hand = h })) (append-nil worker.hand) ∙ set_itself r.workers w worker there in
      let lines : r.lines ++ [] ≡ r.lines = append-nil r.lines in
      let same : r ≡ ran_round w number x worker (unfired host queue) r = (λ k. record { end = r.end; members = sym members k; workers = sym workers k; lines = sym lines k }) in
      none_all (Going r) ∙ ap (λ (u : Round H L). Some (Going u)) same
  fires_all w number end host queue ran r x worker end_is host_is queue_is hand at there (fires_on host' queue' e rest more taken due later) =
      let t : Ready H = record { number = number; member = x; worker = worker; event = e; rest = rest } in
      let f : Fired H L = m.fire number x.host e in
      let f_is : f ≡ m.fire number host e = ap (λ (h : H). m.fire number h e) host_is in
      let x' : Member H = record x { host = f.host; queue = rest ++ events_at m number f.made } in
      let worker' : Worker = record worker { hand = worker.hand ++ filter (λ g. not (m.home g == number)) f.made } in
      let r' : Round H L = after_fire m w r t f in
      let first : after m (Fire w) (Going r) ≡ Some (Going r') =
      fire_is w r t hand at there (ap take_least queue_is ∙ taken) (let d : e.key.due.nanos < end = due in omega arith) in
      let others : after_all m (replicate (length more.fired) (Fire w)) (Going r') ≡ Some (Going (ran_round w number x' worker' more r')) =
      fires_all w number end (m.fire number host e).host (rest ++ events_at m number (m.fire number host e).made) more r' x' worker' end_is
      (ap (λ (g : Fired H L). g.host) f_is) (ap (λ (g : Fired H L). rest ++ events_at m number g.made) f_is)
      (held_same w r.members number x x' at refl ∙ hand) (get_set_same r.members number x x' at) (get_set_same r.workers w worker worker' there) later in
      after_all_cons (Fire w) (replicate (length more.fired) (Fire w)) (Going r) (Going r') first ∙ others
      ∙ ap (λ (u : Round H L). Some (Going u)) (ran_more w number r x worker e rest more f ∙ ap (λ (g : Fired H L). ran_round w number x worker (fired_first m number e g more) r) f_is)

  none_due_left : (number end : ℕ) (host : H) (queue : List Event) (ran : Ran H L) → RunsTo m number end host queue ran → has_due end ran.queue ≡ false
  none_due_left number end host queue ran (rests host' queue' none) = none
  none_due_left number end host queue ran (fires_on host' queue' e rest more taken due later) =
      none_due_left number end (m.fire number host e).host (rest ++ events_at m number (m.fire number host e).made) more later

  -- ---- Put

  put_is : (w : ℕ) (r : Round H L) (worker : Worker) (packet : Event) (rest : List Event) → slice_get r.workers w ≡ Some worker → worker.hand ≡ packet ∷ rest
      → after m (Put w Spill) (Going r) ≡ Some (Going (put_spill w worker packet rest r))
  put_is w r worker packet rest there hand =
      let put : put_packet m w Spill r ≡ Some (put_spill w worker packet rest r) = then_is (slice_get r.workers w) _ worker there ∙ then_is (first worker.hand) _ (packet, rest) (ap first hand) in
      after_going (Put w Spill) r ∙ ap goes put

  puts_all : (w : ℕ) (packets : List Event) (r : Round H L) (worker : Worker) → slice_get r.workers w ≡ Some worker → worker.hand ≡ packets
      → after_all m (replicate (length packets) (Put w Spill)) (Going r) ≡ Some (Going (with_worker w (record { hand = []; spill = worker.spill ++ packets }) r))
  puts_all w [] r worker there hand =
      let same : slice_set r.workers w (record { hand = []; spill = worker.spill ++ [] }) ≡ r.workers =
      ap (λ (h : List Event). slice_set r.workers w (record { hand = h; spill = worker.spill ++ [] })) (sym hand)
      ∙ ap (λ (s : List Event). slice_set r.workers w (record worker { spill = s })) (append-nil worker.spill) ∙ set_itself r.workers w worker there in
      none_all (Going r) ∙ ap (λ (ws : List Worker). Some (Going (record r { workers = ws }))) (sym same)
  puts_all w (packet ∷ packets) r worker there hand =
      let worker' : Worker = record { hand = packets; spill = worker.spill ++ packet ∷ [] } in
      let r' : Round H L = put_spill w worker packet packets r in
      let others = puts_all w packets r' worker' (get_set_same r.workers w worker worker' there) refl in
      let last : Worker = record { hand = []; spill = (worker.spill ++ packet ∷ []) ++ packets } in
      after_all_cons (Put w Spill) (replicate (length packets) (Put w Spill)) (Going r) (Going r') (put_is w r worker packet packets there hand) ∙ others
      ∙ ap (λ (ws : List Worker). Some (Going (record r { workers = ws })))
      (set-set r.workers w worker' last ∙ ap (λ (s : List Event). slice_set r.workers w (record { hand = []; spill = s })) (append_assoc worker.spill (packet ∷ []) packets))

  -- ---- Back

  back_is : (w number : ℕ) (r : Round H L) (x : Member H) (worker : Worker) → held w r.members ≡ Some number → slice_get r.members number ≡ Some x → slice_get r.workers w ≡ Some worker
      → has_due r.end x.queue ≡ false → worker.hand ≡ [] → after m (Back w) (Going r) ≡ Some (Going (with_member number (record x { stage = Done }) r))
  back_is w number r x worker hand at there none empty =
      let u : Round H L = with_member number (record x { stage = Done }) r in
      let guard : (not (has_due r.end x.queue) && is_empty worker.hand) ≡ true = ap (λ (b : Bool). not b && is_empty worker.hand) none ∙ ap (λ (h : List Event). is_empty h) empty in
      let back : give_back w r ≡ Some u =
      then_is (held w r.members) _ number hand ∙ then_is (slice_get r.members number) _ x at ∙ then_is (slice_get r.workers w) _ worker there
      ∙ given_is (not (has_due r.end x.queue) && is_empty worker.hand) u guard in
      after_going (Back w) r ∙ ap goes back

  -- ---- a host in one go

  in_hand : (w : ℕ) → is_held w (InHand w) ≡ true
  in_hand w = eq-eqb w w refl

  pub job_leads : (r : Round H L) (job : Job H L) (x : Member H) (worker : Worker) → slice_get r.members job.number ≡ Some x → is_waiting x.stage ≡ true → slice_get r.workers job.worker ≡ Some worker
      → worker.hand ≡ [] → held job.worker r.members ≡ None → RunsTo m job.number r.end x.host x.queue job.ran
      → after_all m (job_steps job) (Going r) ≡ Some (Going (after_job job x worker r))
  job_leads r job x worker at waits there empty none runs =
      let w : ℕ = job.worker in
      let number : ℕ = job.number in
      let ran : Ran H L = job.ran in
      let x1 : Member H = record x { stage = InHand w } in
      let r1 : Round H L = with_member number x1 r in
      let at1 : slice_get r1.members number ≡ Some x1 = get_set_same r.members number x x1 at in
      let hand1 : held w r1.members ≡ Some number = held_taken w r.members number x x1 none at (in_hand w) in
      let x2 : Member H = record x1 { host = ran.host; queue = ran.queue } in
      let worker2 : Worker = record worker { hand = worker.hand ++ ran.packets } in
      let r2 : Round H L = ran_round w number x1 worker ran r1 in
      let at2 : slice_get r2.members number ≡ Some x2 = get_set_same r1.members number x1 x2 at1 in
      let hand2 : held w r2.members ≡ Some number = held_same w r1.members number x1 x2 at1 refl ∙ hand1 in
      let there2 : slice_get r2.workers w ≡ Some worker2 = get_set_same r.workers w worker worker2 there in
      let worker3 : Worker = record { hand = []; spill = worker.spill ++ ran.packets } in
      let r3 : Round H L = with_worker w worker3 r2 in
      let there3 : slice_get r3.workers w ≡ Some worker3 = get_set_same r2.workers w worker2 worker3 there2 in
      let x4 : Member H = record x2 { stage = Done } in
      let r4 : Round H L = with_member number x4 r3 in
      let takes : after m (Take w (record { index = number })) (Going r) ≡ Some (Going r1) = take_is w number r x worker at waits there none in
      let fires : after_all m (replicate (length ran.fired) (Fire w)) (Going r1) ≡ Some (Going r2) =
      fires_all w number r.end x.host x.queue ran r1 x1 worker refl refl refl hand1 at1 there runs in
      let puts : after_all m (replicate (length ran.packets) (Put w Spill)) (Going r2) ≡ Some (Going r3) =
      puts_all w ran.packets r2 worker2 there2 (ap (λ (h : List Event). h ++ ran.packets) empty) in
      let backs : after m (Back w) (Going r3) ≡ Some (Going r4) =
      back_is w number r3 x2 worker3 hand2 at2 there3 (none_due_left number r.end x.host x.queue ran runs) refl in
      let members : r4.members ≡ slice_set r.members number x4 =
      set-set r1.members number x2 x4 ∙ set-set r.members number x1 x4 in
      let workers : r4.workers ≡ slice_set r.workers w (record worker { spill = worker.spill ++ ran.packets }) =
      set-set r.workers w worker2 worker3 ∙ ap (λ (h : List Event). slice_set r.workers w (record { hand = h; spill = worker.spill ++ ran.packets })) (sym empty) in
      let same : r4 ≡ after_job job x worker r = (λ k. record { end = r.end; members = members k; workers = workers k; lines = r.lines ++ ran.lines }) in
      after_all_cons (Take w (record { index = number })) _ (Going r) (Going r1) takes
      ∙ after_all_append (replicate (length ran.fired) (Fire w)) (replicate (length ran.packets) (Put w Spill) ++ Back w ∷ []) (Going r1) (Going r2) fires
      ∙ after_all_append (replicate (length ran.packets) (Put w Spill)) (Back w ∷ []) (Going r2) (Going r3) puts
      ∙ after_all_cons (Back w) [] (Going r3) (Going r4) backs
      ∙ none_all (Going r4)
      ∙ ap (λ (u : Round H L). Some (Going u)) same

  -- ---- a round of such runs

  abbrev NoneHeld : Round H L → Type 0
  NoneHeld r = (w : ℕ) → held w r.members ≡ None

  works_lead : (last : Round H L) (jobs : List (Job H L)) (r : Round H L) → NoneHeld r → WorksTo m last jobs r → after_all m (flat_map job_steps jobs) (Going r) ≡ Some (Going last)
  works_lead last jobs r idle (are_done r' same) = none_all (Going r) ∙ ap (λ (u : Round H L). Some (Going u)) same
  works_lead last jobs r idle (works r' job more x worker at waits there empty runs later) =
      let r1 : Round H L = after_job job x worker r in
      after_all_append (job_steps job) (flat_map job_steps more) (Going r) (Going r1) (job_leads r job x worker at waits there empty (idle job.worker) runs)
      ∙ works_lead last more r1 (λ w. held_none w r.members job.number (record x { host = job.ran.host; queue = job.ran.queue; stage = Done }) (idle w) refl) later

  -- who was run is done
  abbrev IsDone : Round H L → ℕ → Type 0
  IsDone r i = (x : Member H) → slice_get r.members i ≡ Some x → is_done x.stage ≡ true

  module _ (r : Round H L) (job : Job H L) (x : Member H) (worker : Worker) (at : slice_get r.members job.number ≡ Some x) (i : ℕ) where
    done_here : i ≡ job.number → IsDone (after_job job x worker r) i
    done_here same y there =
        let new : Member H = record x { host = job.ran.host; queue = job.ran.queue; stage = Done } in
        let is : new ≡ y = some_is new y (sym (ap (slice_get (slice_set r.members job.number new)) same ∙ get_set_same r.members job.number x new at) ∙ there) in
        ap (λ (z : Member H). is_done z.stage) (sym is)

    done_still : IsDone r i → IsDone (after_job job x worker r) i
    done_still done y there = ⊎_elim
        (λ (same : i ≡ job.number). done_here same y there)
        (λ (other : i ≢ job.number). done y (sym (get_set_other r.members job.number i (record x { host = job.ran.host; queue = job.ran.queue; stage = Done }) other) ∙ there))
        (cases_eq i job.number)

  done_at_last : (last : Round H L) (jobs : List (Job H L)) (r : Round H L) (i : ℕ) → WorksTo m last jobs r → IsIn i (map (λ (job : Job H L). job.number) jobs) ⊎ IsDone r i → IsDone last i
  done_at_last last jobs r i (are_done r' same) (inl h) = absurd h
  done_at_last last jobs r i (are_done r' same) (inr done) = subst (λ (u : Round H L). IsDone u i) same done
  done_at_last last jobs r i (works r' job more x worker at waits there empty runs later) h =
      done_at_last last more (after_job job x worker r) i later (by_case h)
    where
      by_case : IsIn i (map (λ (job : Job H L). job.number) (job ∷ more)) ⊎ IsDone r i → IsIn i (map (λ (job : Job H L). job.number) more) ⊎ IsDone (after_job job x worker r) i
      by_case (inl (inl same)) = inr (done_here r job x worker at i same)
      by_case (inl (inr named)) = inl named
      by_case (inr done) = inr (done_still r job x worker at i done)

  -- ---- the whole

  idle_opened : (w : ℕ) (events : List Event) (number : ℕ) (hosts : List H) → held w (opened_from m events number hosts) ≡ None
  idle_opened w events number [] = refl
  idle_opened w events number (host ∷ hosts) = ap (option_map suc) (idle_opened w events (suc number) hosts)

  length_opened : (events : List Event) (number : ℕ) (hosts : List H) → length (opened_from m events number hosts) ≡ length hosts
  length_opened events number [] = refl
  length_opened events number (host ∷ hosts) = ap suc (length_opened events (suc number) hosts)

  length_last : (last : Round H L) (jobs : List (Job H L)) (r : Round H L) → WorksTo m last jobs r → length last.members ≡ length r.members
  length_last last jobs r (are_done r' same) = ap (λ (u : Round H L). length u.members) (sym same)
  length_last last jobs r (works r' job more x worker at waits there empty runs later) =
      length_last last more (after_job job x worker r) later ∙ length-set r.members job.number (record x { host = job.ran.host; queue = job.ran.queue; stage = Done })

  pub whole_round : (end workers : ℕ) (w : World H L) (last : Round H L) (jobs : List (Job H L)) → WorksTo m last jobs (opened m end workers w)
      → ((i : ℕ) → i < length w.hosts → Contains (map (λ (job : Job H L). job.number) jobs) i)
      → after_all m (flat_map job_steps jobs ++ Close ∷ []) (Going (opened m end workers w)) ≡ Some (Closed (world_of last))
  whole_round end workers w last jobs leads named =
      let r : Round H L = opened m end workers w in
      let done : list_all (λ (x : Member H). is_done x.stage) last.members ≡ true = all_from_is (λ (x : Member H). is_done x.stage) last.members
      (λ i x there.
      let below = below_get last.members i x there in
      let long = length_last last jobs r leads in
      let opened_long = length_opened w.events 0 w.hosts in
      done_at_last last jobs r i leads (inl (IsIn_from_Contains i (map (λ (job : Job H L). job.number) jobs) (named i (omega arith)))) x there) in
      let closes : after m Close (Going last) ≡ Some (Closed (world_of last)) =
      after_going Close last ∙ ap (option_map Closed) (given_is (list_all (λ (x : Member H). is_done x.stage) last.members) (world_of last) done) in
      after_all_append (flat_map job_steps jobs) (Close ∷ []) (Going r) (Going last) (works_lead last jobs r (λ n. idle_opened n w.events 0 w.hosts) leads)
      ∙ after_all_cons Close [] (Going last) (Closed (world_of last)) closes ∙ none_all (Closed (world_of last))
