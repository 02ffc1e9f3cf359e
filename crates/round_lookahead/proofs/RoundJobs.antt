-- What a round of jobs leaves on any world whose events the hosts held.
use Rattle.std.proofs.Common.{◌≡◌, ◌≢◌, ℕ, zero, suc, ◌<◌, ◌≤◌, inl, inr, ⊎_elim, List, [], ◌∷◌, ◌++◌, Some, map, flat_map, length, slice_get, get_or, refl, sym, ap, subst, ◌∙◌, arith, IsPermutation, AllPairs}
use Rattle.std.proofs.lemmas.Bool.{cases_eq}
use Rattle.std.proofs.lemmas.List.Sorted.{IsPermutation-append_left, IsPermutation-sym, IsPermutation-trans, All-permutation}
use Rattle.sim_base.specs.declared.event.Event.{Event}
use Rattle.list_weights.specs.Weights.{weigh, numbers_below}
use Rattle.list_weights.proofs.Permutations.{weigh_permutation}
use Rattle.list_weights.proofs.Weights.{is_number, is_itself, is_other, weigh_past, weigh_append}
use Rattle.world_order.specs.Premises.{Simulation}
use Rattle.world_order.specs.Round.{Member, Round, Closed, opened, world_of, in_order, events_at}
use Rattle.world_order.specs.Rounds.{end_of, after_round, round_on, IsSameWorld}
use Rattle.world_order.specs.Schedule.{after_all}
use Rattle.world_order.specs.Settled.{IsSettled, AreDueFrom, Leaves}
use Rattle.world_order.specs.WholeTurns.{Job, job_steps, Turn, turn_of, AreTurns, RunsTo, WorksTo}
use Rattle.world_order.specs.World.{World, IsResult}
use Rattle.world_order.specs.declared.step.Step.TheVariants.{Close}
use Rattle.world_order.proofs.JobRuns.{whole_jobs}
use Rattle.world_order.proofs.Jobs.{whole_round}
use Rattle.world_order.proofs.Members.{IsIn, IsIn_left, IsIn_right, IsIn_either, IsIn_permutation, Each, All_from_Each, Contains_from_IsIn}
use Rattle.world_order.proofs.Orders.{settled_same, same_sym, result_same}
use Rattle.world_order.proofs.Parts.{same_order}
use Rattle.world_order.proofs.Results.{settled_result}
use Rattle.world_order.proofs.RoundLaws.{close_law}
use Rattle.round_lookahead.proofs.RoundOrders.{StartFrom, all_of, started, started_all, part_in, part_at, all_parts, parts_permutation}
use Rattle.round_lookahead.proofs.WholeRounds.{NumbersApart, AreJobs, JobRuns, IsLast, length_opened, found, packets_in, lines_in, left_model, left_count, left_host, left_log, left_events}

-- ---- each number once

pub below_number : (n k : ℕ) → IsIn k (numbers_below n) → k < n
below_number zero k h = absurd h
below_number (suc n) k h = ⊎_elim
    (λ (l : IsIn k (numbers_below n)). (let b = below_number n k l in omega arith))
    (λ (r : IsIn k (n ∷ [])). last r)
    (IsIn_either k (numbers_below n) (n ∷ []) h)
  where
    last : IsIn k (n ∷ []) → k < suc n
    last (inl same) = omega arith
    last (inr none) = absurd none

pub number_below : (n k : ℕ) → k < n → IsIn k (numbers_below n)
number_below zero k below = absurd (omega arith)
number_below (suc n) k below = ⊎_elim
    (λ (same : k ≡ n). IsIn_right k (numbers_below n) (n ∷ []) (inl same))
    (λ (other : k ≢ n). IsIn_left k (numbers_below n) (n ∷ []) (number_below n k (omega arith)))
    (cases_eq k n)

-- the last of the first numbers is not among those before it
pub once_below : (n k : ℕ) → weigh (is_number k) (numbers_below n) ≤ 1
once_below zero k = omega arith
once_below (suc n) k = ⊎_elim
    (λ (same : k ≡ n).
    (let none = weigh_past (is_number k) k n (omega arith) (λ p other. is_other k p (λ e. other (sym e))) in
    let all = weigh_append (is_number k) (numbers_below n) (n ∷ []) in
    let here : is_number k n ≡ 1 = ap (is_number k) (sym same) ∙ is_itself k in
    omega arith))
    (λ (other : k ≢ n).
    (let before = once_below n k in
    let all = weigh_append (is_number k) (numbers_below n) (n ∷ []) in
    let here : is_number k n ≡ 0 = is_other k n (λ e. other (sym e)) in
    omega arith))
    (cases_eq k n)

pub there_once : (k : ℕ) (ks : List ℕ) → IsIn k ks → 1 ≤ weigh (is_number k) ks
there_once k [] h = absurd h
there_once k (j ∷ js) (inl same) = (let one : is_number k j ≡ 1 = ap (is_number k) (sym same) ∙ is_itself k in omega arith)
there_once k (j ∷ js) (inr h) = (let more = there_once k js h in omega arith)

number_in : {H L : Type 0} (jobs : List (Job H L)) (j : Job H L) → IsIn j jobs → IsIn j.number (map (λ (i : Job H L). i.number) jobs)
number_in [] j h = absurd h
number_in (i ∷ is) j (inl same) = inl (ap (λ (x : Job _ _). x.number) same)
number_in (i ∷ is) j (inr h) = inr (number_in is j h)

module _ {H L : Type 0} where
  abbrev pub numbers : List (Job H L) → List ℕ
  numbers jobs = map (λ (j : Job H L). j.number) jobs

  -- numbers of which each is there at most once
  apart_once : (jobs : List (Job H L)) → ((k : ℕ) → weigh (is_number k) (numbers jobs) ≤ 1) → NumbersApart jobs
  apart_once [] once = tt
  apart_once (j ∷ js) once = (
    λ i h same.
        let k : ℕ = j.number in
        let here : is_number k k ≡ 1 = is_itself k in
        let there = there_once k (numbers js) (subst (λ (n : ℕ). IsIn n (numbers js)) same (number_in js i h)) in
        let most = once k in
        absurd (omega arith),
    apart_once js (λ k. (let most = once k in omega arith)),
  )

  module _ (jobs : List (Job H L)) (n : ℕ) (once : IsPermutation (numbers jobs) (numbers_below n)) where
    number_of : Each (λ (j : Job H L). j.number < n) jobs
    number_of j h = below_number n j.number (IsIn_permutation j.number (numbers jobs) (numbers_below n) once (number_in jobs j h))

    most_once : (k : ℕ) → weigh (is_number k) (numbers jobs) ≤ 1
    most_once k = (let same = weigh_permutation (is_number k) (numbers jobs) (numbers_below n) once in let most = once_below n k in omega arith)

    pub are_jobs : (sim : Simulation H L) (workers : ℕ) → Each (λ (j : Job H L). j.worker < workers) jobs → AreJobs sim.model workers n jobs
    are_jobs sim workers of = record {
      workers_of = of;
      hosts_of = number_of;
      apart = apart_once jobs most_once;
      named = λ k below. IsIn_permutation k (numbers_below n) (numbers jobs) (IsPermutation-sym (numbers jobs) (numbers_below n) once) (number_below n k below);
    }

-- ---- turns

abbrev turns : {H L : Type 0} → List (Job H L) → List Turn
turns jobs = map turn_of jobs

module _ {H L : Type 0} where
  turn_numbers : (jobs : List (Job H L)) → map (λ (t : Turn). t.number) (turns jobs) ≡ numbers jobs
  turn_numbers [] = refl
  turn_numbers (j ∷ js) = ap (λ (l : List ℕ). j.number ∷ l) (turn_numbers js)

  turn_in : (jobs : List (Job H L)) (t : Turn) → IsIn t (turns jobs) → (j : Job H L) × IsIn j jobs × (t ≡ turn_of j)
  turn_in [] t h = absurd h
  turn_in (j ∷ js) t (inl same) = (j, inl refl, same)
  turn_in (j ∷ js) t (inr h) = let r = turn_in js t h in (r.0, inr r.1, r.2)

  turn_at : (jobs : List (Job H L)) (k : ℕ) (d : Turn) → k < length (turns jobs) → (j : Job H L) × IsIn j jobs × (j.number ≡ (get_or (turns jobs) k d).number)
  turn_at [] k d below = absurd (omega arith)
  turn_at (j ∷ js) zero d below = (j, inl refl, refl)
  turn_at (j ∷ js) (suc k) d below = let r = turn_at js k d (omega arith) in (r.0, inr r.1, r.2)

  apart_pairs : (js : List (Job H L)) → NumbersApart js → AllPairs (λ (t u : Turn). t.number ≢ u.number) (turns js)
  apart_pairs [] apart i k d less below = absurd (omega arith)
  apart_pairs (j ∷ js) apart zero zero d less below = absurd (omega arith)
  apart_pairs (j ∷ js) apart zero (suc k) d less below = λ same. (let r = turn_at js k d (omega arith) in apart.0 r.0 r.1 (r.2 ∙ sym same))
  apart_pairs (j ∷ js) apart (suc i) zero d less below = absurd (omega arith)
  apart_pairs (j ∷ js) apart (suc i) (suc k) d less below = apart_pairs js apart.1 i k d (omega arith) (omega arith)

-- ---- the round

module _ {H L : Type 0} (sim : Simulation H L) (stop least workers : ℕ) (w : World H L) (settled : IsSettled sim w) (from : AreDueFrom least w.events)
    (jobs : List (Job H L)) (of : Each (λ (j : Job H L). j.worker < workers) jobs) (once : IsPermutation (numbers jobs) (numbers_below (length w.hosts)))
    (host : ℕ → H) (hosts : (k : ℕ) (h : H) → slice_get w.hosts k ≡ Some h → h ≡ host k)
    (held : ℕ → List Event) (all : IsPermutation (flat_map held (numbers_below (length w.hosts))) w.events)
    (starts : List (List Event)) (start : StartFrom sim.model (end_of sim stop least) host held jobs starts) where
  -- the same world, with its events in the order of the jobs
  abbrev ordered : World H L
  ordered = record w { events = all_of sim.model (end_of sim stop least) host held starts }

  same : IsSameWorld w ordered
  same = record {
    hosts = refl;
    events = IsPermutation-sym ordered.events w.events
        (IsPermutation-trans ordered.events (flat_map held (numbers_below (length w.hosts))) w.events
        (started_all sim.model (end_of sim stop least) host held jobs starts (length w.hosts) start once) all);
    log = refl;
  }

  ordered_settled : IsSettled sim ordered
  ordered_settled = settled_same sim w ordered same settled

  ordered_from : AreDueFrom least ordered.events
  ordered_from = All-permutation (λ (e : Event). least ≤ e.key.due.nanos) w.events ordered.events same.events from

  jobs_are : AreJobs sim.model workers (length w.hosts) jobs
  jobs_are = are_jobs jobs (length w.hosts) once sim workers of

  runs : Each (JobRuns sim.model (end_of sim stop least) workers ordered) jobs
  runs j h x at =
      subst (λ (y : H). RunsTo sim.model j.number (end_of sim stop least) y (events_at sim.model j.number ordered.events) j.ran) (sym (hosts j.number x at))
      (started sim.model (end_of sim stop least) host held jobs starts jobs_are.apart start j h)

  abbrev last : Round H L
  last = (found sim stop least workers ordered ordered_settled ordered_from jobs jobs_are runs).0

  left : (model : World H L) × IsResult sim.model (end_of sim stop least) model ordered × Leaves (end_of sim stop least) ordered model (world_of last)
  left = left_model sim stop least workers ordered ordered_settled ordered_from jobs jobs_are runs

  moved : (v : World H L) × IsResult sim.model (end_of sim stop least) v w × IsSameWorld left.0 v
  moved = result_same sim (end_of sim stop least) left.0 ordered w ordered_settled (same_sym w ordered same) left.1

  -- the world after the round
  pub next_world : World H L
  next_world = moved.0

  pub next_result : IsResult sim.model (end_of sim stop least) next_world w
  unfolding next_world moved
  next_result = moved.1

  pub next_settled : IsSettled sim next_world
  next_settled = settled_result sim (end_of sim stop least) next_world w settled next_result

  pub next_count : length next_world.hosts ≡ length w.hosts
  unfolding left next_world moved
  next_count = ap length (sym moved.2.hosts) ∙ left_count sim stop least workers ordered ordered_settled ordered_from jobs jobs_are runs

  pub next_host : (j : Job H L) → IsIn j jobs → slice_get next_world.hosts j.number ≡ Some j.ran.host
  unfolding left next_world moved
  next_host j h = ap (λ (l : List H). slice_get l j.number) (sym moved.2.hosts) ∙ left_host sim stop least workers ordered ordered_settled ordered_from jobs jobs_are runs j h

  pub next_log : next_world.log ≡ w.log ++ in_order (lines_in jobs)
  unfolding left next_world moved
  next_log = sym moved.2.log ∙ left_log sim stop least workers ordered ordered_settled ordered_from jobs jobs_are runs

  pub next_events : {X : Type 0} (f : X → List Event) (xs : List X) → length xs ≡ length w.hosts
      → ((j : Job H L) → IsIn j jobs → (x : X) → slice_get xs j.number ≡ Some x → IsPermutation (f x) j.ran.queue) → IsPermutation (flat_map f xs ++ packets_in jobs) next_world.events
  unfolding left next_world moved
  next_events f xs long queues =
      IsPermutation-trans (flat_map f xs ++ packets_in jobs) left.0.events next_world.events
      (left_events sim stop least workers ordered ordered_settled ordered_from jobs jobs_are runs f xs long queues) moved.2.events

  pub next_over : AreDueFrom (end_of sim stop least) next_world.events
  unfolding left next_world moved
  next_over = All-permutation (λ (e : Event). end_of sim stop least ≤ e.key.due.nanos) left.0.events next_world.events moved.2.events
      (All-permutation (λ (e : Event). end_of sim stop least ≤ e.key.due.nanos) (world_of last).events left.0.events left.2.events left.2.over)

  -- ---- the queues in the order of the jobs

  abbrev queue_of : Member H → List Event
  queue_of x = x.queue

  last_is : IsLast sim.model jobs (opened sim.model (end_of sim stop least) workers ordered) last
  last_is = (found sim stop least workers ordered ordered_settled ordered_from jobs jobs_are runs).1

  members_count : length last.members ≡ length w.hosts
  members_count = last_is.count ∙ length_opened sim.model (end_of sim stop least) workers ordered

  member_queue : (j : Job H L) → IsIn j jobs → part_at queue_of last.members j.number ≡ j.ran.queue
  member_queue j h = let done = last_is.done j h in ap (part_in queue_of) done.at ∙ done.queue

  job_queues : (js : List (Job H L)) → Each (λ (j : Job H L). IsIn j jobs) js → flat_map (part_at queue_of last.members) (numbers js) ≡ flat_map (λ (j : Job H L). j.ran.queue) js
  job_queues [] each = refl
  job_queues (j ∷ js) each =
      ap (λ (l : List Event). l ++ flat_map (part_at queue_of last.members) (numbers js)) (member_queue j (each j (inl refl)))
      ∙ ap (λ (l : List Event). j.ran.queue ++ l) (job_queues js (λ i h. each i (inr h)))

  pub next_queues : IsPermutation (flat_map (λ (j : Job H L). j.ran.queue) jobs ++ packets_in jobs) next_world.events
  next_queues =
      let packets : List Event = packets_in jobs in
      let by_number : List Event = flat_map (part_at queue_of last.members) (numbers_below (length w.hosts)) in
      let whole : by_number ≡ flat_map queue_of last.members =
      ap (λ (n : ℕ). flat_map (part_at queue_of last.members) (numbers_below n)) (sym members_count) ∙ all_parts queue_of last.members in
      let moved_parts : IsPermutation (flat_map (λ (j : Job H L). j.ran.queue) jobs) by_number =
      subst (λ (l : List Event). IsPermutation l by_number) (job_queues jobs (λ j h. h)) (parts_permutation (part_at queue_of last.members) (numbers jobs) (numbers_below (length w.hosts)) once) in
      IsPermutation-trans (flat_map (λ (j : Job H L). j.ran.queue) jobs ++ packets) (flat_map queue_of last.members ++ packets) next_world.events
      (IsPermutation-append_left packets (flat_map (λ (j : Job H L). j.ran.queue) jobs) (flat_map queue_of last.members)
      (subst (IsPermutation (flat_map (λ (j : Job H L). j.ran.queue) jobs)) whole moved_parts))
      (next_events queue_of last.members members_count
      (λ j h x at. same_order x.queue j.ran.queue (sym (ap (part_in queue_of) at) ∙ member_queue j h)))

  -- ---- the steps of the round, as its jobs were taken

  are_turns : AreTurns workers (length w.hosts) (turns jobs)
  are_turns = record {
    workers = All_from_Each (λ (t : Turn). t.worker < workers) (turns jobs) (λ t h. (let j = turn_in jobs t h in subst (λ (u : Turn). u.worker < workers) (sym j.2) (of j.0 j.1)));
    hosts = All_from_Each (λ (t : Turn). t.number < length w.hosts) (turns jobs) (λ t h. (let j = turn_in jobs t h in subst (λ (u : Turn). u.number < length w.hosts) (sym j.2) (jobs_are.hosts_of j.0 j.1)));
    apart = apart_pairs jobs jobs_are.apart;
    named = λ k below. Contains_from_IsIn k (map (λ (t : Turn). t.number) (turns jobs)) (subst (IsIn k) (sym (turn_numbers jobs)) (jobs_are.named k below));
  }

  taken_jobs : (end_round : Round H L) × (js : List (Job H L)) × WorksTo sim.model end_round js (opened sim.model (end_of sim stop least) workers w) × (map turn_of js ≡ turns jobs)
  taken_jobs = whole_jobs sim (end_of sim stop least) workers w settled (turns jobs) are_turns

  taken_closes : after_all sim.model (flat_map job_steps taken_jobs.1 ++ Close ∷ []) (round_on sim stop least workers w) ≡ Some (Closed (world_of taken_jobs.0))
  taken_closes =
      let same_numbers : numbers jobs ≡ numbers taken_jobs.1 =
      sym (turn_numbers jobs) ∙ sym (ap (map (λ (t : Turn). t.number)) taken_jobs.3) ∙ turn_numbers taken_jobs.1 in
      whole_round sim.model (end_of sim stop least) workers w taken_jobs.0 taken_jobs.1 taken_jobs.2
      (λ k below. Contains_from_IsIn k (numbers taken_jobs.1) (subst (IsIn k) same_numbers (jobs_are.named k below)))

  -- from the world itself they are allowed, and close its round
  pub steps_taken : (js : List (Job H L)) × (closed : World H L) × (map turn_of js ≡ map turn_of jobs)
      × (after_all sim.model (flat_map job_steps js ++ Close ∷ []) (round_on sim stop least workers w) ≡ Some (Closed closed)) × IsSameWorld next_world (after_round w closed)
  steps_taken =
      let closed : World H L = world_of taken_jobs.0 in
      let leaves : Leaves (end_of sim stop least) w next_world closed =
      close_law sim stop least workers w settled from (flat_map job_steps taken_jobs.1 ++ Close ∷ []) closed taken_closes next_world next_result in (
        taken_jobs.1,
        closed,
        taken_jobs.3,
        taken_closes,
        record { hosts = sym leaves.hosts; events = IsPermutation-sym closed.events next_world.events leaves.events; log = sym leaves.log },
      )
