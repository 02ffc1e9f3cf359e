-- Each host can be run up to the end, and so a round of such runs is there for each order of hosts and workers.
use Rattle.std.proofs.Common.{◌≡◌, ◌≢◌, ℕ, zero, suc, ◌+◌, ◌-◌, ◌<◌, ◌≤◌, inl, inr, ⊎_elim, Bool, true, false, ◌||◌, cond, ◌==◌, List, [], ◌∷◌, ◌++◌, Option, Some, None, AllPairs, map, filter, replicate, length, length-append, get_or, slice_get, slice_set, nat_lt, refl, sym, ap, subst, ◌∙◌, arith, rules, eqb-true}
use Rattle.std.proofs.lemmas.Bool.{cases_eq}
use Rattle.std.proofs.lemmas.List.{length-map}
use Rattle.std.proofs.lemmas.List.Sorted.{IsPermutation-sym, length_permutation}
use Rattle.sim_base.specs.declared.event.Event.{Event}
use Rattle.world_order.specs.EventOrder.{take_least}
use Rattle.world_order.specs.Model.{Fired}
use Rattle.world_order.specs.Premises.{IsFit, Simulation}
use Rattle.world_order.specs.Round.{Member, Worker, Round, events_at, opened, opened_from}
use Rattle.world_order.specs.Settled.{IsSettled}
use Rattle.world_order.specs.Steps.{has_due, is_waiting}
use Rattle.world_order.specs.WholeTurns.{Ran, unfired, fired_first, RunsTo, rests, goes, Job, after_job, WorksTo, are_done, works, Turn, turn_of, AreTurns}
use Rattle.world_order.specs.World.{World}
use Rattle.world_order.proofs.Fires.{get-map}
use Rattle.world_order.proofs.Homes.{get_set_same, get_set_other, get_below}
use Rattle.world_order.proofs.Keys.{due_from}
use Rattle.world_order.proofs.Least.{take_least_least, take_least_IsPermutation, take_least_there}
use Rattle.world_order.proofs.Members.{IsIn, Contains_from_IsIn, Each, Each_from_All, Each-append, IsIn_permutation, IsIn_filter_from}
use Rattle.world_order.proofs.Openings.{member_opened, hosts_opened}

-- an event that is due is found
due_by : (end : ℕ) (e : Event) (es : List Event) (b : Bool) → nat_lt e.key.due.nanos end ≡ b → (b || has_due end es) ≡ true → (has_due end es ≡ true → (x : Event) × IsIn x es × (x.key.due.nanos < end))
    → (x : Event) × IsIn x (e ∷ es) × (x.key.due.nanos < end)
due_by end e es true due is more = (e, inl refl, search rules)
due_by end e es false due is more = let m = more is in (m.0, inr m.1, m.2)

due_found : (end : ℕ) (es : List Event) → has_due end es ≡ true → (x : Event) × IsIn x es × (x.key.due.nanos < end)
due_found end [] is = absurd (cc)
due_found end (e ∷ es) is = due_by end e es (nat_lt e.key.due.nanos end) refl is (due_found end es)

fewer_by : {X : Type 0} (p : X → Bool) (x : X) (xs : List X) (b : Bool) → length (filter p xs) ≤ length xs → length (cond b (x ∷ filter p xs) (filter p xs)) ≤ length (x ∷ xs)
fewer_by p x xs true less = omega arith
fewer_by p x xs false less = omega arith

fewer : {X : Type 0} (p : X → Bool) (xs : List X) → length (filter p xs) ≤ length xs
fewer p [] = omega arith
fewer p (x ∷ xs) = fewer_by p x xs (p x) (fewer p xs)

module _ {H L : Type 0} (sim : Simulation H L) (number end : ℕ) where
  -- a host with its events
  pub record IsOwn (host : H) (queue : List Event) : Type 0 where
    pub host_good : sim.IsHost number host
    pub limited : sim.model.next host ≤ sim.limit
    pub events : Each sim.IsEvent queue
    pub home : Each (λ (e : Event). sim.model.home e ≡ number) queue
    pub clock : Each (λ (e : Event). sim.model.clock host ≤ e.key.due.nanos) queue

  module _ (host : H) (queue : List Event) (own : IsOwn host queue) (e : Event) (rest : List Event) (taken : take_least queue ≡ Some (e, rest)) where
    there : IsIn e queue
    there = take_least_there queue (e, rest) taken

    was : (x : Event) → IsIn x rest → IsIn x queue
    was x h = IsIn_permutation x (e ∷ rest) queue (IsPermutation-sym queue (e ∷ rest) (take_least_IsPermutation queue (e, rest) taken)) (inr h)

    fits : IsFit sim.model sim.lookahead sim.limit sim.IsHost sim.IsEvent host e (sim.model.fire number host e)
    fits =
        let home : sim.model.home e ≡ number = own.home e there in
        subst (λ (n : ℕ). IsFit sim.model sim.lookahead sim.limit sim.IsHost sim.IsEvent host e (sim.model.fire n host e)) home
        (sim.fit host e (subst (λ (n : ℕ). sim.IsHost n host) (sym home) own.host_good) (own.events e there) (own.clock e there))

    own_after : IsOwn (sim.model.fire number host e).host (rest ++ events_at sim.model number (sim.model.fire number host e).made)
    own_after =
        let f : Fired H L = sim.model.fire number host e in
        let fit = fits in
        let mine : List Event = events_at sim.model number f.made in
        let in_made : (x : Event) → IsIn x mine → IsIn x f.made = λ x h. (IsIn_filter_from (λ (g : Event). sim.model.home g == number) x f.made h).0 in
        record {
          host_good = subst (λ (n : ℕ). sim.IsHost n f.host) (own.home e there) fit.host;
          limited = fit.limited;
          events = Each-append sim.IsEvent rest mine (λ x h. own.events x (was x h)) (λ x h. Each_from_All sim.IsEvent f.made fit.events x (in_made x h));
          home = Each-append (λ (g : Event). sim.model.home g ≡ number) rest mine (λ x h. own.home x (was x h))
              (λ x h. eqb-true (sim.model.home x) number (IsIn_filter_from (λ (g : Event). sim.model.home g == number) x f.made h).1);
          clock = Each-append (λ (g : Event). sim.model.clock f.host ≤ g.key.due.nanos) rest mine
              (λ x h. (let c = fit.clock in let o : e.key.due.nanos ≤ x.key.due.nanos = due_from x.key e.key (take_least_least queue (e, rest) taken x (was x h)) in omega arith))
              (λ x h. (let c = fit.clock in let l = Each_from_All (λ (g : Event). e.key.due.nanos < g.key.due.nanos) f.made fit.later x (in_made x h) in omega arith));
        }

    -- the events that wait and the numbers that are left fall
    falls : length (rest ++ events_at sim.model number (sim.model.fire number host e).made) + (sim.limit - sim.model.next (sim.model.fire number host e).host) < length queue + (sim.limit - sim.model.next host)
    falls =
        let f : Fired H L = sim.model.fire number host e in
        let fit = fits in
        let counted = fit.counted in
        let limited = fit.limited in
        let some : length (events_at sim.model number f.made) ≤ length f.made = fewer (λ (g : Event). sim.model.home g == number) f.made in
        let both = length-append rest (events_at sim.model number f.made) in
        let long = length_permutation queue (e ∷ rest) (take_least_IsPermutation queue (e, rest) taken) in
        omega arith

  runs_by : (n : ℕ) (host : H) (queue : List Event) → IsOwn host queue → (b : Bool) → has_due end queue ≡ b → (o : Option (Event × List Event)) → take_least queue ≡ o
      → ((e : Event) (rest : List Event) → take_least queue ≡ Some (e, rest) → (ran : Ran H L) × RunsTo sim.model number end (sim.model.fire number host e).host (rest ++ events_at sim.model number (sim.model.fire number host e).made) ran)
      → (ran : Ran H L) × RunsTo sim.model number end host queue ran
  runs_by n host queue own false none o taken more = (unfired host queue, rests host queue none)
  runs_by n host queue own true some None taken more = absurd (nothing queue taken (due_found end queue some).1)
    where
      nothing : (es : List Event) → take_least es ≡ None → IsIn (due_found end queue some).0 es → ⊥
      nothing [] is h = h
      nothing (x ∷ xs) is h = cc
  runs_by n host queue own true some (Some (e, rest)) taken more =
      let x = due_found end queue some in
      let order : e.key.due.nanos ≤ (x.0).key.due.nanos = due_from (x.0).key e.key (take_least_least queue (e, rest) taken x.0 x.1) in
      let due = x.2 in
      let later = more e rest taken in
      (fired_first sim.model number e (sim.model.fire number host e) later.0, goes host queue e rest later.0 taken (omega arith) later.1)

  runs_within : (n : ℕ) (host : H) (queue : List Event) → IsOwn host queue → length queue + (sim.limit - sim.model.next host) < n → (ran : Ran H L) × RunsTo sim.model number end host queue ran
  runs_within zero host queue own within = absurd (omega arith)
  runs_within (suc n) host queue own within = runs_by n host queue own (has_due end queue) refl (take_least queue) refl
      (λ e rest taken. runs_within n (sim.model.fire number host e).host (rest ++ events_at sim.model number (sim.model.fire number host e).made)
      (own_after host queue own e rest taken) (let less = falls host queue own e rest taken in omega arith))

  pub host_runs : (host : H) (queue : List Event) → IsOwn host queue → (ran : Ran H L) × RunsTo sim.model number end host queue ran
  host_runs host queue own = runs_within (suc (length queue + (sim.limit - sim.model.next host))) host queue own (omega arith)

-- ---- jobs for each order

-- no host is taken twice
abbrev pub Apart : List Turn → Type 0
Apart [] = Unit {0}
Apart (p ∷ ps) = Each (λ (q : Turn). q.number ≢ p.number) ps × Apart ps

apart_of : (ps : List Turn) → AllPairs (λ (p q : Turn). p.number ≢ q.number) ps → Apart ps
apart_of [] pairs = tt
apart_of (p ∷ ps) pairs = (
  λ q h same.
      let c = Contains_from_IsIn q ps h in
      let below = c.1 in
      let other : p.number ≢ (get_or ps c.0 q).number = pairs 0 (suc c.0) q (omega arith) (omega arith) in
      other (sym same ∙ ap (λ (t : Turn). t.number) (sym c.2)),
  apart_of ps (λ i j d less below. pairs (suc i) (suc j) d (omega arith) (omega arith)),
)

module _ {H L : Type 0} (sim : Simulation H L) (workers : ℕ) where
  -- the workers are there, with nothing in hand
  abbrev pub AreIdle : Round H L → Type 0
  AreIdle r = (k : ℕ) → k < workers → (worker : Worker) × (slice_get r.workers k ≡ Some worker) × (worker.hand ≡ [])

  -- the host waits with its events
  pub record Waiting (r : Round H L) (number : ℕ) : Type 0 where
    pub member : Member H
    pub at : slice_get r.members number ≡ Some member
    pub waits : is_waiting member.stage ≡ true
    pub own : IsOwn sim number r.end member.host member.queue

  pub jobs_exist : (turns : List Turn) (r : Round H L) → Each (λ (p : Turn). p.worker < workers) turns → Apart turns → AreIdle r → Each (λ (p : Turn). Waiting r p.number) turns
      → (last : Round H L) × (jobs : List (Job H L)) × WorksTo sim.model last jobs r × (map turn_of jobs ≡ turns)
  jobs_exist [] r below apart idle waiting = (r, [], are_done r refl, refl)
  jobs_exist (p ∷ ps) r below apart idle waiting =
      let w = idle p.worker (below p (inl refl)) in
      let h : Waiting r p.number = waiting p (inl refl) in
      let run = host_runs sim p.number r.end (h.member).host (h.member).queue h.own in
      let job : Job H L = record { worker = p.worker; number = p.number; ran = run.0 } in
      let r1 : Round H L = after_job job h.member w.0 r in
      let new : Worker = record (w.0) { spill = (w.0).spill ++ (run.0).packets } in
      let idle1 : AreIdle r1 = λ k less. ⊎_elim
      (λ (same : k ≡ p.worker). (new, ap (slice_get (slice_set r.workers p.worker new)) same ∙ get_set_same r.workers p.worker w.0 new w.1, w.2))
      (λ (other : k ≢ p.worker). let v = idle k less in (v.0, get_set_other r.workers p.worker k new other ∙ v.1, v.2))
      (cases_eq k p.worker) in
      let waiting1 : Each (λ (q : Turn). Waiting r1 q.number) ps = λ q in_ps.
      (let v : Waiting r q.number = waiting q (inr in_ps) in
      record { member = v.member; at = get_set_other r.members p.number q.number _ (apart.0 q in_ps) ∙ v.at; waits = v.waits; own = v.own }) in
      let more = jobs_exist ps r1 (λ q in_ps. below q (inr in_ps)) apart.1 idle1 waiting1 in
      (more.0, job ∷ more.1, works r job more.1 h.member w.0 h.at h.waits w.1 w.2 run.1 more.2, λ i. p ∷ more.3 i)

-- ---- the opened round

get_replicate : {X : Type 0} (n k : ℕ) (x : X) → k < n → slice_get (replicate n x) k ≡ Some x
get_replicate zero k x below = absurd (omega arith)
get_replicate (suc n) zero x below = refl
get_replicate (suc n) (suc k) x below = get_replicate n k x (omega arith)

module _ {H L : Type 0} (sim : Simulation H L) (end workers : ℕ) (w : World H L) (settled : IsSettled sim w) where
  waiting_opened : (number : ℕ) → number < length w.hosts → Waiting sim workers (opened sim.model end workers w) number
  waiting_opened number below =
      let members : List (Member H) = opened_from sim.model w.events 0 w.hosts in
      let long : length members ≡ length w.hosts = sym (length-map members (λ (x : Member H). x.host)) ∙ ap length (hosts_opened sim.model w.events 0 w.hosts) in
      let found = get_below members number (omega arith) in
      let x : Member H = found.0 in
      let is = member_opened sim.model w.events 0 w.hosts number x found.1 in
      let host_at : slice_get w.hosts number ≡ Some x.host =
      ap (λ (hosts : List H). slice_get hosts number) (sym (hosts_opened sim.model w.events 0 w.hosts)) ∙ get-map (λ (y : Member H). y.host) members number x found.1 in
      let own_event : (e : Event) → IsIn e x.queue → IsIn e w.events × ((sim.model.home e == (0 + number)) ≡ true) = λ e h.
      IsIn_filter_from (λ (g : Event). sim.model.home g == (0 + number)) e w.events (subst (IsIn e) is.0 h) in
      record {
        member = x;
        at = found.1;
        waits = ap is_waiting is.1;
        own = record {
          host_good = settled.hosts number x.host host_at;
          limited = settled.limited number x.host host_at;
          events = λ e h. Each_from_All sim.IsEvent w.events settled.events e (own_event e h).0;
          home = λ e h. (let home : sim.model.home e ≡ 0 + number = eqb-true (sim.model.home e) (0 + number) (own_event e h).1 in omega arith);
          clock = λ e h. Each_from_All (λ (g : Event). sim.model.clock x.host ≤ g.key.due.nanos) w.events (settled.clock number x.host host_at) e (own_event e h).0;
        };
      }

  pub whole_jobs : (turns : List Turn) → AreTurns workers (length w.hosts) turns
      → (last : Round H L) × (jobs : List (Job H L)) × WorksTo sim.model last jobs (opened sim.model end workers w) × (map turn_of jobs ≡ turns)
  whole_jobs turns are =
      jobs_exist sim workers turns (opened sim.model end workers w)
      (Each_from_All (λ (p : Turn). p.worker < workers) turns are.workers)
      (apart_of turns are.apart)
      (λ k below. (record { hand = []; spill = [] }, get_replicate workers k (record { hand = []; spill = [] }) below, refl))
      (λ p h. waiting_opened p.number (Each_from_All (λ (q : Turn). q.number < length w.hosts) turns are.hosts p h))
