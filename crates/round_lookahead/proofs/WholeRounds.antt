-- A round in which each host is run up to the end in one go, where what each of them leaves is given.
use Rattle.std.proofs.Common.{◌≡◌, ◌≢◌, ℕ, zero, suc, ◌+◌, ◌<◌, inl, inr, ⊎_elim, true, List, [], ◌∷◌, ◌++◌, Some, map, flat_map, replicate, length, slice_get, slice_set, refl, sym, ap, subst, ◌∙◌, arith, append_assoc, append-nil, length-set, IsPermutation}
use Rattle.std.proofs.lemmas.Bool.{cases_eq}
use Rattle.std.proofs.lemmas.List.{length-map}
use Rattle.std.proofs.lemmas.List.Sorted.{IsPermutation-refl, IsPermutation-sym, IsPermutation-trans, IsPermutation-append, IsPermutation-append_right, IsPermutation-append_comm}
use Rattle.sim_base.specs.declared.event.Event.{Event}
use Rattle.world_order.specs.Model.{Model}
use Rattle.world_order.specs.Premises.{Simulation}
use Rattle.world_order.specs.Round.{Done, Member, Worker, Round, Going, Closed, events_at, opened, opened_from, placed, events_of, world_of, in_order}
use Rattle.world_order.specs.Rounds.{end_of}
use Rattle.world_order.specs.Schedule.{after_all}
use Rattle.world_order.specs.Settled.{IsSettled, AreDueFrom, Leaves}
use Rattle.world_order.specs.Steps.{is_waiting}
use Rattle.world_order.specs.WholeTurns.{RunsTo, Job, job_steps, after_job, WorksTo, are_done, works}
use Rattle.world_order.specs.World.{World, Logged, IsResult}
use Rattle.world_order.specs.declared.step.Step.TheVariants.{Close}
use Rattle.world_order.proofs.Fires.{get-map}
use Rattle.world_order.proofs.Homes.{some_is, get_set_same, get_set_other, get_below, below_get}
use Rattle.world_order.proofs.Jobs.{whole_round}
use Rattle.world_order.proofs.Members.{IsIn, Contains_from_IsIn, Each, Each_cons}
use Rattle.world_order.proofs.Openings.{member_opened, hosts_opened, opened_packets}
use Rattle.world_order.proofs.Orders.{closed_model}
use Rattle.world_order.proofs.Parts.{same_order, second_first, part_same, part-more}
use Rattle.world_order.proofs.RoundStates.{carried_of}

-- ---- lists of jobs

get_replicate : {X : Type 0} (n k : ℕ) (x : X) → k < n → slice_get (replicate n x) k ≡ Some x
get_replicate zero k x below = absurd (omega arith)
get_replicate (suc n) zero x below = refl
get_replicate (suc n) (suc k) x below = get_replicate n k x (omega arith)

module _ {H L : Type 0} where
  -- no host is taken twice
  abbrev pub NumbersApart : List (Job H L) → Type 0
  NumbersApart [] = Unit {0}
  NumbersApart (j ∷ js) = Each (λ (i : Job H L). i.number ≢ j.number) js × NumbersApart js

  pub job_of : (jobs : List (Job H L)) (number : ℕ) → IsIn number (map (λ (j : Job H L). j.number) jobs) → (j : Job H L) × IsIn j jobs × (j.number ≡ number)
  job_of [] number h = absurd h
  job_of (j ∷ js) number (inl same) = (j, inl refl, sym same)
  job_of (j ∷ js) number (inr h) = let r = job_of js number h in (r.0, inr r.1, r.2)

  -- what jobs leave, in their order
  abbrev pub packets_in : List (Job H L) → List Event
  packets_in jobs = flat_map (λ (j : Job H L). j.ran.packets) jobs

  abbrev pub lines_in : List (Job H L) → List (Logged L)
  lines_in jobs = flat_map (λ (j : Job H L). j.ran.lines) jobs

-- lists of two kinds whose parts are the same, each at its place
pub same_parts : {X Y Z : Type 0} (f : X → List Z) (g : Y → List Z) (xs : List X) (ys : List Y) → length xs ≡ length ys
    → ((k : ℕ) (x : X) (y : Y) → slice_get xs k ≡ Some x → slice_get ys k ≡ Some y → IsPermutation (f x) (g y)) → IsPermutation (flat_map f xs) (flat_map g ys)
same_parts f g [] [] long each = IsPermutation-refl []
same_parts f g [] (y ∷ ys) long each = absurd (omega arith)
same_parts f g (x ∷ xs) [] long each = absurd (omega arith)
same_parts f g (x ∷ xs) (y ∷ ys) long each =
    IsPermutation-append (f x) (g y) (flat_map f xs) (flat_map g ys) (each 0 x y refl refl)
    (same_parts f g xs ys (omega arith) (λ k a b here there. each (suc k) a b here there))

-- ---- the last round

module _ {H L : Type 0} (m : Model H L) where
  -- the job's host waits, and runs to what the job leaves
  pub record Runs (r : Round H L) (job : Job H L) : Type 0 where
    pub member : Member H
    pub at : slice_get r.members job.number ≡ Some member
    pub waits : is_waiting member.stage ≡ true
    pub runs : RunsTo m job.number r.end member.host member.queue job.ran

  -- it has run to that
  pub record HasRun (r : Round H L) (job : Job H L) : Type 0 where
    pub member : Member H
    pub at : slice_get r.members job.number ≡ Some member
    pub host : member.host ≡ job.ran.host
    pub queue : member.queue ≡ job.ran.queue

  abbrev AreIdle : ℕ → Round H L → Type 0
  AreIdle workers r = (k : ℕ) → k < workers → (worker : Worker) × (slice_get r.workers k ≡ Some worker) × (worker.hand ≡ [])

  pub record IsLast (jobs : List (Job H L)) (r last : Round H L) : Type 0 where
    pub leads : WorksTo m last jobs r
    pub count : length last.members ≡ length r.members
    pub others : (i : ℕ) → Each (λ (j : Job H L). j.number ≢ i) jobs → slice_get last.members i ≡ slice_get r.members i
    pub done : Each (HasRun last) jobs
    pub places : flat_map (λ (x : Member H). placed x.places) last.members ≡ flat_map (λ (x : Member H). placed x.places) r.members
    pub carried : IsPermutation (carried_of last) (packets_in jobs ++ carried_of r)
    pub lines : last.lines ≡ r.lines ++ lines_in jobs

  module _ (r : Round H L) (job : Job H L) (x : Member H) (worker : Worker) (there : slice_get r.workers job.worker ≡ Some worker) where
    carried_more : IsPermutation (carried_of (after_job job x worker r)) (job.ran.packets ++ carried_of r)
    carried_more =
        let packets : List Event = job.ran.packets in
        let new : Worker = record worker { spill = worker.spill ++ packets } in
        part-more (λ (v : Worker). v.hand ++ v.spill) r.workers job.worker worker new packets there
        (subst (λ (l : List Event). IsPermutation l (packets ++ (worker.hand ++ worker.spill))) (append_assoc worker.hand worker.spill packets)
        (IsPermutation-append_comm (worker.hand ++ worker.spill) packets))

  carried_all : (packets more carried last next : List Event) → IsPermutation last (more ++ next) → IsPermutation next (packets ++ carried) → IsPermutation last ((packets ++ more) ++ carried)
  carried_all packets more carried last next after here =
      subst (IsPermutation last) (sym (append_assoc packets more carried))
      (IsPermutation-trans last (more ++ next) (packets ++ (more ++ carried)) after
      (IsPermutation-trans (more ++ next) (more ++ (packets ++ carried)) (packets ++ (more ++ carried))
      (IsPermutation-append_right more next (packets ++ carried) here)
      (second_first more packets carried)))

  works_last : (workers : ℕ) (jobs : List (Job H L)) (r : Round H L) → Each (λ (j : Job H L). j.worker < workers) jobs → NumbersApart jobs → AreIdle workers r → Each (Runs r) jobs
      → (last : Round H L) × IsLast jobs r last
  works_last workers [] r below apart idle each = (
    r,
    record {
      leads = are_done r refl;
      count = refl;
      others = λ i other. refl;
      done = λ j h. absurd h;
      places = refl;
      carried = IsPermutation-refl (carried_of r);
      lines = sym (append-nil r.lines);
    },
  )
  works_last workers (job ∷ jobs) r below apart idle each =
      let w = idle job.worker (below job (inl refl)) in
      let h : Runs r job = each job (inl refl) in
      let new : Member H = record (h.member) { host = job.ran.host; queue = job.ran.queue; stage = Done } in
      let worker : Worker = record (w.0) { spill = (w.0).spill ++ job.ran.packets } in
      let r1 : Round H L = after_job job h.member w.0 r in
      let idle1 : AreIdle workers r1 = λ k less. ⊎_elim
      (λ (same : k ≡ job.worker). (worker, ap (slice_get (slice_set r.workers job.worker worker)) same ∙ get_set_same r.workers job.worker w.0 worker w.1, w.2))
      (λ (other : k ≢ job.worker). let v = idle k less in (v.0, get_set_other r.workers job.worker k worker other ∙ v.1, v.2))
      (cases_eq k job.worker) in
      let each1 : Each (Runs r1) jobs = λ j in_jobs.
      (let v : Runs r j = each j (inr in_jobs) in
      record { member = v.member; at = get_set_other r.members job.number j.number new (apart.0 j in_jobs) ∙ v.at; waits = v.waits; runs = v.runs }) in
      let more = works_last workers jobs r1 (λ j in_jobs. below j (inr in_jobs)) apart.1 idle1 each1 in
      let last : Round H L = more.0 in
      let is : IsLast jobs r1 last = more.1 in (
        last,
        record {
          leads = works r job jobs h.member w.0 h.at h.waits w.1 w.2 h.runs is.leads;
          count = is.count ∙ length-set r.members job.number new;
          others = λ i other. is.others i (λ j in_jobs. other j (inr in_jobs)) ∙ get_set_other r.members job.number i new (λ same. other job (inl refl) (sym same));
          done = Each_cons (HasRun last) job jobs
              (record { member = new; at = is.others job.number apart.0 ∙ get_set_same r.members job.number h.member new h.at; host = refl; queue = refl }) is.done;
          places = is.places ∙ part_same (λ (x : Member H). placed x.places) r.members job.number h.member new h.at refl;
          carried = carried_all job.ran.packets (packets_in jobs) (carried_of r) (carried_of last) (carried_of r1) is.carried (carried_more r job h.member w.0 w.1);
          lines = is.lines ∙ append_assoc r.lines job.ran.lines (lines_in jobs);
        },
      )

  -- ---- from a world on

  -- each of so many hosts is taken once, by some of so many workers
  pub record AreJobs (workers hosts : ℕ) (jobs : List (Job H L)) : Type 0 where
    pub workers_of : Each (λ (j : Job H L). j.worker < workers) jobs
    pub hosts_of : Each (λ (j : Job H L). j.number < hosts) jobs
    pub apart : NumbersApart jobs
    pub named : (number : ℕ) → number < hosts → IsIn number (map (λ (j : Job H L). j.number) jobs)

  module _ (end workers : ℕ) (w : World H L) where
    -- a job's host runs to what the job leaves
    abbrev pub JobRuns : Job H L → Type 0
    JobRuns job = (host : H) → slice_get w.hosts job.number ≡ Some host → RunsTo m job.number end host (events_at m job.number w.events) job.ran

    pub length_opened : length (opened_from m w.events 0 w.hosts) ≡ length w.hosts
    length_opened = sym (length-map (opened_from m w.events 0 w.hosts) (λ (x : Member H). x.host)) ∙ ap length (hosts_opened m w.events 0 w.hosts)

    runs_opened : (job : Job H L) → JobRuns job → job.number < length w.hosts → Runs (opened m end workers w) job
    runs_opened job run below =
        let k : ℕ = job.number in
        let members : List (Member H) = opened_from m w.events 0 w.hosts in
        let long = length_opened in
        let found = get_below members k (omega arith) in
        let x : Member H = found.0 in
        let is = member_opened m w.events 0 w.hosts k x found.1 in
        let host_at : slice_get w.hosts k ≡ Some x.host =
        ap (λ (hosts : List H). slice_get hosts k) (sym (hosts_opened m w.events 0 w.hosts)) ∙ get-map (λ (y : Member H). y.host) members k x found.1 in
        let queue : x.queue ≡ events_at m k w.events = is.0 ∙ ap (λ (n : ℕ). events_at m n w.events) (let e : 0 + k ≡ k = omega arith in e) in
        record {
          member = x;
          at = found.1;
          waits = ap is_waiting is.1;
          runs = subst (λ (q : List Event). RunsTo m k end x.host q job.ran) (sym queue) (run x.host host_at);
        }

    pub whole_last : (jobs : List (Job H L)) → AreJobs workers (length w.hosts) jobs → Each JobRuns jobs → (last : Round H L) × IsLast jobs (opened m end workers w) last
    whole_last jobs are each =
        works_last workers jobs (opened m end workers w) are.workers_of are.apart
        (λ k below. (record { hand = []; spill = [] }, get_replicate workers k (record { hand = []; spill = [] }) below, refl))
        (λ j h. runs_opened j (each j h) (are.hosts_of j h))

-- ---- what the round leaves

module _ {H L : Type 0} (sim : Simulation H L) (stop least workers : ℕ) (w : World H L) (settled : IsSettled sim w) (from : AreDueFrom least w.events)
    (jobs : List (Job H L)) (are : AreJobs sim.model workers (length w.hosts) jobs) (each : Each (JobRuns sim.model (end_of sim stop least) workers w) jobs) where
  abbrev pub start : Round H L
  start = opened sim.model (end_of sim stop least) workers w

  pub found : (last : Round H L) × IsLast sim.model jobs start last
  found = whole_last sim.model (end_of sim stop least) workers w jobs are each

  -- its steps are allowed, and close it
  steps_close : after_all sim.model (flat_map job_steps jobs ++ Close ∷ []) (Going start) ≡ Some (Closed (world_of found.0))
  steps_close =
      let is = found.1 in
      whole_round sim.model (end_of sim stop least) workers w found.0 jobs is.leads
      (λ i below. Contains_from_IsIn i (map (λ (j : Job H L). j.number) jobs) (are.named i below))

  -- the world after the model's turns
  pub left_model : (model : World H L) × IsResult sim.model (end_of sim stop least) model w × Leaves (end_of sim stop least) w model (world_of found.0)
  left_model = closed_model sim stop least workers w (world_of found.0) (flat_map job_steps jobs ++ Close ∷ []) settled from steps_close

  has_run : (k : ℕ) → k < length w.hosts → (j : Job H L) × IsIn j jobs × (j.number ≡ k) × HasRun sim.model found.0 j
  has_run k below =
      let is = found.1 in
      let j = job_of jobs k (are.named k below) in
      (j.0, j.1, j.2, is.done j.0 j.1)

  pub left_count : length left_model.0.hosts ≡ length w.hosts
  left_count =
      let is = found.1 in
      ap length (sym left_model.2.hosts) ∙ length-map found.0.members (λ (x : Member H). x.host) ∙ is.count ∙ length_opened sim.model (end_of sim stop least) workers w

  -- each host is what a job leaves
  pub left_host : (job : Job H L) → IsIn job jobs → slice_get left_model.0.hosts job.number ≡ Some job.ran.host
  left_host job there =
      let done : HasRun sim.model found.0 job = found.1.done job there in
      ap (λ (hosts : List H). slice_get hosts job.number) (sym left_model.2.hosts) ∙ get-map (λ (x : Member H). x.host) found.0.members job.number done.member done.at ∙ ap Some done.host

  pub left_log : left_model.0.log ≡ w.log ++ in_order (lines_in jobs)
  left_log =
      let is = found.1 in
      sym left_model.2.log ∙ ap (λ (ls : List (Logged L)). w.log ++ in_order ls) is.lines

  -- the queues that they leave, whatever the order in each, and all packets are the events
  pub left_events : {X : Type 0} (f : X → List Event) (xs : List X) → length xs ≡ length w.hosts
      → ((job : Job H L) → IsIn job jobs → (x : X) → slice_get xs job.number ≡ Some x → IsPermutation (f x) job.ran.queue) → IsPermutation (flat_map f xs ++ packets_in jobs) left_model.0.events
  left_events f xs long queues =
      let is = found.1 in
      let last = found.0 in
      let packets : List Event = packets_in jobs in
      let count : length last.members ≡ length w.hosts = is.count ∙ length_opened sim.model (end_of sim stop least) workers w in
      let parts : IsPermutation (flat_map f xs) (flat_map (λ (x : Member H). x.queue) last.members) =
      same_parts f (λ (x : Member H). x.queue) xs last.members (long ∙ sym count)
      (λ k x y here there.
      let below = below_get xs k x here in
      let j = has_run k (omega arith) in
      let at_j : slice_get xs j.0.number ≡ Some x = ap (slice_get xs) j.2 ∙ here in
      let same : y.queue ≡ j.0.ran.queue = ap (λ (z : Member H). z.queue) (some_is y j.3.member (sym there ∙ sym (ap (slice_get last.members) j.2) ∙ j.3.at)) ∙ j.3.queue in
      subst (IsPermutation (f x)) (sym same) (queues j.0 j.1 x at_j)) in
      let laid : List Event = flat_map (λ (x : Member H). placed x.places) last.members in
      let none : laid ++ carried_of start ≡ [] =
      ap (λ (l : List Event). l ++ carried_of start) is.places ∙ opened_packets sim.model (end_of sim stop least) workers w settled.apart in
      let moved : IsPermutation (laid ++ carried_of last) packets =
      IsPermutation-trans (laid ++ carried_of last) (laid ++ (packets ++ carried_of start)) packets
      (IsPermutation-append_right laid (carried_of last) (packets ++ carried_of start) is.carried)
      (IsPermutation-trans (laid ++ (packets ++ carried_of start)) (packets ++ (laid ++ carried_of start)) packets
      (second_first laid packets (carried_of start))
      (same_order (packets ++ (laid ++ carried_of start)) packets (ap (λ (l : List Event). packets ++ l) none ∙ append-nil packets))) in
      IsPermutation-trans (flat_map f xs ++ packets) (events_of last) left_model.0.events
      (IsPermutation-append (flat_map f xs) (flat_map (λ (x : Member H). x.queue) last.members) packets (laid ++ carried_of last) parts
      (IsPermutation-sym (laid ++ carried_of last) packets moved))
      left_model.2.events
