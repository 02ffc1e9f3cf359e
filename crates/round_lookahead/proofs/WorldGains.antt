-- What the world stands for after a round, what it gained, and who took which host.
use Rattle.std.proofs.Common.{◌≡◌, ℕ, suc, ◌<◌, ⊎_elim, List, [], ◌∷◌, ◌++◌, Option, Some, All, map, flat_map, length, get_or, slice_get, refl, sym, ap, subst, ◌∙◌, arith, IsPermutation, Vec}
use Rattle.std.specs.Prelude.{Box}
use Rattle.std.specs.declared.alloc.Global.{Global}
use Rattle.std.proofs.lemmas.List.{length-map}
use Rattle.std.proofs.lemmas.List.Sorted.{IsPermutation-sym, IsPermutation-trans, IsPermutation-append_right}
use Rattle.sim_base.specs.declared.event.Event.{Event}
use Rattle.sim_base.specs.declared.event.Parcel.{Parcel}
use Rattle.sim_base.specs.declared.host.HostId.{HostId}
use Rattle.sim_base.specs.declared.time.Time.{Time}
use Rattle.list_weights.specs.Weights.{numbers_below}
use Rattle.event_order.specs.Events.{IsLeastDue}
use Rattle.steal_workers.specs.Gathers.{joined}
use Rattle.file_calls.specs.declared.task.Output.{Output}
use Rattle.run_files.specs.Written.{written_in}
use Rattle.host_state.specs.declared.host.Host.{Host}
use Rattle.host_link.specs.declared.line.Line.{Line}
use Rattle.host_link.specs.declared.line.Logged.{Logged}
use Rattle.host_link.specs.Net.{Net}
use Rattle.host_link.specs.Home.{home}
use Rattle.host_state.specs.HostRecord.{HostRecord}
use Rattle.host_state.specs.HostStands.{Stands}
use Rattle.host_link.specs.Parcels.{parcel_event}
use Rattle.host_link.specs.Logs.{lines_of, kept_lines}
use Rattle.host_state.specs.Running.{kept_line}
use Rattle.host_state.proofs.Gaining.{names_later}
use Rattle.world_order.specs.Round.{in_order}
use Rattle.world_order.specs.Window.{window_end}
use Rattle.world_order.specs.WholeTurns.{Turn, turn_of}
use Rattle.world_order.proofs.Fires.{get-map}
use Rattle.world_order.proofs.Homes.{some_is, get_below, below_get}
use Rattle.world_order.proofs.Members.{IsIn, IsIn_left, IsIn_either, IsIn_permutation, Each, Each_from_All, All_from_Each}
use Rattle.round_lookahead.specs.declared.workers.host_task.HostTask.{HostTask}
use Rattle.round_lookahead.specs.declared.workers.worked.Done.{Done}
use Rattle.round_lookahead.specs.declared.workers.worked.Worked.{Worked}
use Rattle.round_parts.specs.declared.counts.Counts.{Counts}
use Rattle.round_lookahead.specs.declared.world.gained.Gained.{Gained}
use Rattle.round_parts.specs.declared.load.Load.{Load}
use Rattle.round_lookahead.specs.declared.world.settling.Settled.{Settled}
use Rattle.round_lookahead.specs.declared.world.world_state.World.{World}
use Rattle.round_parts.specs.Arrivals.{Boxed, arrivals}
use Rattle.round_lookahead.specs.inside.Backs.{all_done, all_spilled, took_by, ids_of}
use Rattle.round_parts.specs.Rows.{row_arrivals, AreAtHome}
use Rattle.round_parts.specs.Counts.{counts_of}
use Rattle.round_lookahead.specs.Gains.{IsTaken, HasTurns, turns_from}
use Rattle.round_lookahead.specs.inside.Gains.{IsGained, HasGained}
use Rattle.round_lookahead.specs.inside.RoundsInPlace.{IsRoundInPlace}
use Rattle.round_lookahead.specs.inside.Rounds.{IsRound, AreWorks, all_parcels}
use Rattle.round_parts.specs.Dues.{first_due}
use Rattle.round_lookahead.specs.inside.Settles.{done_numbers, CanSettle, IsBack, HasSettled}
use Rattle.round_lookahead.specs.Tasks.{waiting, AreTasks}
use Rattle.round_lookahead.specs.Took.{took_in}
use Rattle.round_lookahead.specs.Works.{HostJob, AreDone}
use Rattle.round_lookahead.specs.WorldStands.{HostWorld, nanos_of, StandsAt, WorldStands}
use Rattle.round_lookahead.proofs.Extending.{result_extends}
use Rattle.round_lookahead.proofs.CountSteps.{lines_gained}
use Rattle.round_parts.proofs.DueSteps.{any_in, in_any}
use Rattle.round_lookahead.proofs.RoundJobs as round_jobs
use Rattle.round_lookahead.proofs.RunSteps.{IsRunBy, AreRun, job_done, done_job, run_lines}
use Rattle.round_lookahead.proofs.SettleSteps.{done_of, get_or_is}
use Rattle.round_lookahead.proofs.WaitSteps.{arrived_in, arrived_rows, held_in, waiting_parts}
use Rattle.round_lookahead.proofs.WholeRounds.{packets_in, lines_in}
use Rattle.round_lookahead.proofs.WorldSteps.{settled_between, rec, rec_is, rec_tasks, of_map, in_part, map_both}
use Rattle.round_lookahead.proofs.WorldRounds as rounds

-- ---- who took which host

turns_ids : (worker : ℕ) (js : List HostJob) (d : List Done) (net : Net) (end : ℕ) (tasks : List HostTask) (records : ℕ → HostRecord) → AreDone net end worker tasks records js d
    → map (λ (h : HostId). let t : Turn = record { worker = worker; number = h.index } in t) (ids_of d) ≡ map turn_of js
turns_ids worker [] [] net end tasks records a = refl
turns_ids worker [] (d ∷ ds) net end tasks records a = absurd a
turns_ids worker (j ∷ js) [] net end tasks records a = absurd a
turns_ids worker (j ∷ js) (d ∷ ds) net end tasks records a =
    λ i. record { worker = sym a.0.by_worker i; number = a.0.run.id i } ∷ turns_ids worker js ds net end tasks records a.1 i

turns_by : (net : Net) (end : ℕ) (tasks : List HostTask) (records : ℕ → HostRecord) (worker : ℕ) (jobs : List (List HostJob)) (works : List Worked)
    → AreWorks net end tasks records worker jobs works → turns_from worker (took_by works) ≡ map turn_of (joined jobs)
turns_by net end tasks records worker [] [] a = refl
turns_by net end tasks records worker [] (w ∷ ws) a = absurd a
turns_by net end tasks records worker (js ∷ jss) [] a = absurd a
turns_by net end tasks records worker (js ∷ jss) (w ∷ ws) a =
    let here = turns_ids worker js w.done.items net end tasks records a.0 in
    let rest = turns_by net end tasks records (suc worker) jss ws a.1 in
    (λ i. here i ++ rest i) ∙ sym (map_both turn_of js (joined jss))

turn_numbers : (js : List HostJob) → map (λ (t : Turn). t.number) (map turn_of js) ≡ round_jobs.numbers js
turn_numbers [] = refl
turn_numbers (j ∷ js) = ap (λ (l : List ℕ). j.number ∷ l) (turn_numbers js)

module _ (c : World) (w : HostWorld) (stands : WorldStands c w) (least : Time) (due : IsLeastDue (flat_map waiting c.tasks.items) (Some least)) (workers : ℕ)
    (works : List Worked) (rows : List (Vec Boxed Global)) (many : length works ≡ workers)
    (round : IsRound c.net (window_end (nanos_of c.lookahead) c.net.stop.nanos least.nanos) c.tasks.items (rec c w stands) works rows)
    (s : Settled) (so : HasSettled (length c.tasks.items) works rows s)
    (n : Counts) (counted : (log : List Line) → c.counts ≡ counts_of log → n ≡ counts_of (log ++ kept_lines s.gained.lines.items)) (load : Load)
    (soon : Option Time) (told : soon ≡ first_due (flat_map waiting s.tasks.items)) where
  abbrev next : HostWorld
  next = rounds.next c w stands least due workers works rows many round

  abbrev end : ℕ
  end = window_end (nanos_of c.lookahead) c.net.stop.nanos least.nanos

  abbrev jobs : List HostJob
  jobs = joined round.jobs

  abbrev ds : List Done
  ds = all_done works

  abbrev ts : List HostTask
  ts = s.tasks.items

  abbrev new : World
  new = record c { tasks = s.tasks; due = soon; told = told; counts = n; load = load }

  are_run : AreRun c.net end c.tasks.items (rec c w stands) jobs ds
  are_run = rounds.are_run c w stands least due workers works rows many round

  -- the host of a number, and its job
  pub record At (k : ℕ) : Type 0 where
    pub done : Done
    pub back : IsBack s done
    pub number : done.id.index ≡ k
    pub job : HostJob
    pub in_jobs : IsIn job jobs
    pub run : IsRunBy c.net end c.tasks.items (rec c w stands) job done
    pub same : job.number ≡ k

  of_done : (d : Done) → IsIn d ds → At d.id.index
  of_done d h =
      let j = job_done c.net end c.tasks.items (rec c w stands) jobs ds are_run d h in
      record { done = d; back = Each_from_All (IsBack s) ds so.hosts d h; number = refl; job = j.0; in_jobs = j.1; run = j.2; same = sym j.2.run.id }

  at_number : (k : ℕ) → k < length c.tasks.items → At k
  at_number k below =
      let d = done_of ds k (IsIn_permutation k (numbers_below (length c.tasks.items)) (done_numbers ds)
      (IsPermutation-sym (done_numbers ds) (numbers_below (length c.tasks.items)) (rounds.can_settle c w stands least due workers works rows many round).once)
      (round_jobs.number_below (length c.tasks.items) k below)) in
      subst At d.2 (of_done d.0 d.1)

  next_host : (k : ℕ) (a : At k) → slice_get next.hosts k ≡ Some a.job.ran.host
  next_host k a = ap (slice_get next.hosts) (sym a.same) ∙ rounds.next_host c w stands least due workers works rows many round a.job a.in_jobs

  task_at : (k : ℕ) (a : At k) → slice_get ts k ≡ Some a.back.task
  task_at k a = ap (slice_get ts) (sym a.number) ∙ a.back.at

  rows_home : AreAtHome c.net (map (λ (t : HostTask). t.parcels) ts)
  rows_home = so.home c.net
      (All_from_Each (λ (p : Parcel). home c.net (parcel_event p) ≡ p.to.index) (all_spilled works)
      (λ p h. rounds.laid_home c w stands least due workers works rows many round p (rounds.in_spill c w stands least due workers works rows many round p h)))
      (λ i row below. All_from_Each (λ (b : Boxed). home c.net (parcel_event b.value) ≡ i) (get_or rows i row).items
      (λ b h.
      let found = get_below rows i below in
      let same : get_or rows i row ≡ found.0 = get_or_is rows i found.0 row found.1 in
      let mine : IsIn b.value (map (λ (x : Boxed). x.value) (get_or rows i row).items) = Rattle.round_lookahead.proofs.WorldSteps.in_map (λ (x : Boxed). x.value) (get_or rows i row).items b h in
      let there : IsIn b.value (all_parcels rows works) = IsIn_left b.value (flat_map (λ (r : Vec Boxed Global). map (λ (x : Boxed). x.value) r.items) rows) (all_spilled works)
      (in_part (λ (r : Vec Boxed Global). map (λ (x : Boxed). x.value) r.items) rows i found.0 b.value found.1
      (subst (λ (r : Vec Boxed Global). IsIn b.value (map (λ (x : Boxed). x.value) r.items)) same mine)) in
      rounds.laid_home c w stands least due workers works rows many round b.value there
      ∙ Each_from_All (λ (x : Boxed). x.value.to.index ≡ i) (get_or rows i row).items (round.rows_are.theirs i row below) b h))

  -- all that waits at a host fires there
  waits_home : (k : ℕ) (a : At k) → Each (λ (e : Event). home c.net e ≡ k) (waiting a.back.task)
  waits_home k a e h = ⊎_elim
      (λ (q : IsIn e a.back.task.host.value.queue).
      let d : IsIn e a.done.host.value.queue = subst (λ (x : Box Host Global). IsIn e x.value.queue) a.back.host q in
      let host_good = (rounds.next_settled c w stands least due workers works rows many round).hosts a.job.number a.job.ran.host
      (rounds.next_host c w stands least due workers works rows many round a.job a.in_jobs) in
      Each_from_All (λ (x : Event). home c.net x ≡ a.job.ran.host.link.number) a.done.host.value.queue a.run.run.owns.home e d ∙ host_good.number ∙ a.same)
      (λ (p : IsIn e (arrivals a.back.task.parcels.items)).
      let b = of_map (λ (x : Boxed). parcel_event x.value) a.back.task.parcels.items e p in
      let below = below_get ts k a.back.task (task_at k a) in
      let long = length-map ts (λ (t : HostTask). t.parcels) in
      let row : get_or (map (λ (t : HostTask). t.parcels) ts) k a.back.task.parcels ≡ a.back.task.parcels =
      get_or_is (map (λ (t : HostTask). t.parcels) ts) k a.back.task.parcels a.back.task.parcels (get-map (λ (t : HostTask). t.parcels) ts k a.back.task (task_at k a)) in
      let all : All (λ (x : Boxed). home c.net (parcel_event x.value) ≡ k) a.back.task.parcels.items =
      subst (λ (r : Vec Boxed Global). All (λ (x : Boxed). home c.net (parcel_event x.value) ≡ k) r.items) row (rows_home k a.back.task.parcels (omega arith)) in
      ap (home c.net) b.2 ∙ Each_from_All (λ (x : Boxed). home c.net (parcel_event x.value) ≡ k) a.back.task.parcels.items all b.0 b.1)
      (IsIn_either e a.back.task.host.value.queue (arrivals a.back.task.parcels.items) h)

  stands_at : (k : ℕ) (t : HostTask) (h : HostRecord) → slice_get ts k ≡ Some t → slice_get next.hosts k ≡ Some h → StandsAt c.net k t h
  stands_at k t h at there =
      let below = below_get ts k t at in
      let long = so.tasks_count in
      let a = at_number k (omega arith) in
      let task : a.back.task ≡ t = some_is a.back.task t (sym (task_at k a) ∙ at) in
      let host : a.job.ran.host ≡ h = some_is a.job.ran.host h (sym (next_host k a) ∙ there) in
      subst (λ (x : HostTask). StandsAt c.net k x h) task
      (record {
        id = ap (λ (i : HostId). i.index) a.back.id ∙ a.number;
        stands = subst (Stands a.back.task.host.value) host (subst (λ (x : Box Host Global). Stands x.value a.job.ran.host) (sym a.back.host) a.run.run.stands);
        home = All_from_Each (λ (e : Event). home c.net e ≡ k) (waiting a.back.task) (waits_home k a);
      })

  events_are : IsPermutation (flat_map waiting ts) next.events
  events_are =
      let queues : List Event = held_in ts in
      let arrived : List Event = arrived_in ts in
      let laid : List Event = map parcel_event (all_spilled works) ++ row_arrivals rows in
      let packets : IsPermutation arrived (packets_in jobs) =
      IsPermutation-trans arrived laid (packets_in jobs) (subst (λ (l : List Event). IsPermutation l laid) (arrived_rows ts) so.packets) (rounds.laid_packets c w stands least due workers works rows many round) in
      IsPermutation-trans (flat_map waiting ts) (queues ++ arrived) next.events
      (waiting_parts ts)
      (IsPermutation-trans (queues ++ arrived) (queues ++ packets_in jobs) next.events
      (IsPermutation-append_right queues arrived (packets_in jobs) packets)
      (rounds.next_events c w stands least due workers works rows many round ts (so.tasks_count ∙ stands.count)
      (λ j h t at.
      let d = done_job c.net end c.tasks.items (rec c w stands) jobs ds are_run j h in
      let a : IsBack s d.0 = Each_from_All (IsBack s) ds so.hosts d.0 d.1 in
      let same : a.task ≡ t = some_is a.task t (sym a.at ∙ ap (slice_get ts) d.2.run.id ∙ at) in
      subst (λ (x : HostTask). IsPermutation x.host.value.queue j.ran.queue) same (subst (λ (x : Box Host Global). IsPermutation x.value.queue j.ran.queue) (sym a.host) d.2.run.queue))))

  pub gained : IsGained w next s.gained
  gained = record {
    lines = ap (map kept_line) (rounds.next_log c w stands least due workers works rows many round) ∙ map_both kept_line w.log (in_order (lines_in jobs))
        ∙ ap (λ (l : List Logged). map kept_line w.log ++ l) (sym (so.lines (lines_in jobs) (run_lines c.net end c.tasks.items (rec c w stands) jobs ds are_run)));
    count = so.outputs_count ∙ stands.count;
    outputs = λ k before after got at there here.
        let below = below_get w.hosts k before at in
        let count = stands.count in
        let a = at_number k (omega arith) in
        let now : a.job.ran.host ≡ after = some_is a.job.ran.host after (sym (next_host k a) ∙ there) in
        let was : before ≡ rec c w stands a.job.number = rec_is c w stands k before at ∙ ap (rec c w stands) (sym a.same) in
        let outs : a.done.outputs.items ≡ got = some_is a.done.outputs.items got (sym a.back.outputs ∙ ap (slice_get (written_in s.gained.outputs)) a.number ∙ here) in
        ap (λ (x : HostRecord). x.written) (sym now) ∙ a.run.run.written
        ∙ ap (λ (x : HostRecord). x.written ++ a.done.outputs.items) (sym was) ∙ ap (λ (l : List Output). before.written ++ l) outs;
  }

  pub stands_new : WorldStands new next
  stands_new = record {
    rounds = stands.rounds;
    count = so.tasks_count ∙ stands.count ∙ sym (rounds.next_count c w stands least due workers works rows many round);
    listed = stands.listed ∙ sym (names_later w next (result_extends c.net end next w (rounds.next_result c w stands least due workers works rows many round)));
    hosts = stands_at;
    events = events_are;
    counts = counted (lines_of w.log) stands.counts ∙ ap counts_of (sym (lines_gained w.log next.log s.gained.lines.items gained.lines));
    between = settled_between c.net (nanos_of c.lookahead) stands.rounds next (rounds.next_settled c w stands least due workers works rows many round);
  }

  turns_are : turns_from 0 (took_in s.gained.took) ≡ map turn_of jobs
  turns_are = ap (turns_from 0) so.took ∙ turns_by c.net end c.tasks.items (rec c w stands) 0 round.jobs works round.done

  pub taken : IsTaken c.net end workers w next (took_in s.gained.took)
  taken =
      let t = rounds.steps_taken c w stands least due workers works rows many round in
      record {
        workers_are = ap length so.took ∙ length-map works (λ (x : Worked). ids_of x.done.items) ∙ many;
        once = subst (λ (ns : List ℕ). IsPermutation ns (numbers_below (length w.hosts))) (sym (ap (map (λ (u : Turn). u.number)) turns_are ∙ turn_numbers jobs))
            (rounds.once c w stands least due workers works rows many round);
        jobs = t.0;
        turns = t.2 ∙ sym turns_are;
        closed = t.1;
        allowed = t.3;
        same = t.4;
      }

  has_turns : HasTurns c new workers w next (took_in s.gained.took)
  has_turns =
      let some = any_in (λ (e : Event). e.key.due ≡ least) (flat_map waiting c.tasks.items) due.0 in
      record {
        least = least.nanos;
        from = rounds.from c w stands least due workers works rows many round;
        due = in_any (λ (e : Event). e.key.due.nanos ≡ least.nanos) w.events some.0 (IsIn_permutation some.0 (flat_map waiting c.tasks.items) w.events stands.events some.1) (ap (λ (t : Time). t.nanos) some.2);
        result = rounds.next_result c w stands least due workers works rows many round;
        over = rounds.next_over c w stands least due workers works rows many round;
        stands = stands_new;
        taken = taken;
      }

  pub has_round : HasGained c new workers w next s.gained
  has_round = record { turns = has_turns; gained = gained }

-- ---- as the code has it

module _ (c : World) (w : HostWorld) (stands : WorldStands c w) (least : Time) (due : IsLeastDue (flat_map waiting c.tasks.items) (Some least)) (workers : ℕ)
    (works : List Worked) (rows : List (Vec Boxed Global)) (many : length works ≡ workers) (ts : Vec HostTask Global) (ts_are : ts ≡ c.tasks)
    (until : ℕ) (until_is : until ≡ window_end (nanos_of c.lookahead) c.net.stop.nanos least.nanos)
    (left : (r : ℕ → HostRecord) → AreTasks c.net ts.items r → IsRound c.net until ts.items r works rows) (count : ℕ) (count_is : count ≡ length c.tasks.items) where
  the_round : IsRound c.net (window_end (nanos_of c.lookahead) c.net.stop.nanos least.nanos) c.tasks.items (rec c w stands) works rows
  the_round =
      subst (λ (n : ℕ). IsRound c.net n c.tasks.items (rec c w stands) works rows) until_is
      (subst (λ (v : Vec HostTask Global). (r : ℕ → HostRecord) → AreTasks c.net v.items r → IsRound c.net until v.items r works rows) ts_are left (rec c w stands) (rec_tasks c w stands))

  pub settles : CanSettle count works rows
  settles = subst (λ (n : ℕ). CanSettle n works rows) (sym count_is) (rounds.can_settle c w stands least due workers works rows many the_round)

  pub goes_on : (s : Settled) → HasSettled count works rows s → (n : Counts) → ((log : List Line) → c.counts ≡ counts_of log → n ≡ counts_of (log ++ kept_lines s.gained.lines.items))
      → (load : Load) (soon : Option Time) (told : soon ≡ first_due (flat_map waiting s.tasks.items))
      → (v : HostWorld) × HasGained c (record c { tasks = s.tasks; due = soon; told = told; counts = n; load = load }) workers w v s.gained
  goes_on s so n counted load soon told = (
    rounds.next c w stands least due workers works rows many the_round,
    has_round c w stands least due workers works rows many the_round s (subst (λ (k : ℕ). HasSettled k works rows s) count_is so) n counted load soon told,
  )

-- a round in which each host is run in its place
pub goes_on_here : (c : World) (w : HostWorld) → WorldStands c w → (least : Time) → IsLeastDue (flat_map waiting c.tasks.items) (Some least) → (workers : ℕ) (ts : Vec HostTask Global) → ts ≡ c.tasks → (new : Vec HostTask Global)
    (until : ℕ) → until ≡ window_end (nanos_of c.lookahead) c.net.stop.nanos least.nanos → (p : Gained) → IsRoundInPlace c.net until workers ts.items new p
    → (n : Counts) → ((log : List Line) → c.counts ≡ counts_of log → n ≡ counts_of (log ++ kept_lines p.lines.items))
    → (load : Load) (soon : Option Time) (told : soon ≡ first_due (flat_map waiting new.items)) → (v : HostWorld) × HasGained c (record c { tasks = new; due = soon; told = told; counts = n; load = load }) workers w v p
goes_on_here c w stands least due workers ts ts_are new until until_is p h n counted load soon told =
    goes_on c w stands least due workers h.works h.rows h.many ts ts_are until until_is h.round (length ts.items) (ap (λ (v : Vec HostTask Global). length v.items) ts_are) (record { tasks = new; gained = p }) h.settled
    n counted load soon told
