-- The jobs of all workers, each with what is done.
use Rattle.std.proofs.Common.{◌≡◌, ℕ, suc, ◌+◌, ◌<◌, inl, inr, ⊎_elim, List, [], ◌∷◌, ◌++◌, Some, map, flat_map, length, slice_get, refl, sym, ap, subst, ◌∙◌, arith, IsPermutation}
use Rattle.std.proofs.lemmas.List.Sorted.{IsPermutation-refl, IsPermutation-append}
use Rattle.sim_base.specs.declared.event.Event.{Event}
use Rattle.steal_workers.specs.Gathers.{joined}
use Rattle.host_link.specs.Net.{Net}
use Rattle.host_state.specs.Fits.{model}
use Rattle.host_link.specs.Home.{home}
use Rattle.host_state.specs.HostRecord.{HostRecord}
use Rattle.host_link.specs.Parcels.{parcel_event}
use Rattle.host_state.specs.Running.{kept_line}
use Rattle.world_order.proofs.Members.{IsIn, IsIn_either, IsIn_permutation, Each}
use Rattle.round_lookahead.specs.declared.workers.host_task.HostTask.{HostTask}
use Rattle.round_lookahead.specs.declared.workers.worked.Done.{Done}
use Rattle.round_lookahead.specs.declared.workers.worked.Worked.{Worked}
use Rattle.round_lookahead.specs.inside.Backs.{all_done, lines_done}
use Rattle.round_lookahead.specs.inside.Rounds.{AreWorks}
use Rattle.round_lookahead.specs.inside.Settles.{done_numbers}
use Rattle.round_lookahead.specs.Tasks.{waiting}
use Rattle.round_lookahead.specs.Works.{HostJob, IsRunOf, AreDone, parcels_by, parcels_made}
use Rattle.round_lookahead.proofs.RoundJobs.{numbers}
use Rattle.round_lookahead.proofs.RoundOrders.{StartFrom, part_in, part_at}
use Rattle.round_lookahead.proofs.WholeRounds.{packets_in, lines_in}

map-append : {X Y : Type 0} (f : X → Y) (xs ys : List X) → map f (xs ++ ys) ≡ map f xs ++ map f ys
map-append f [] ys = refl
map-append f (x ∷ xs) ys = ap (λ l. f x ∷ l) (map-append f xs ys)

module _ (net : Net) (end : ℕ) (tasks : List HostTask) (rec : ℕ → HostRecord) where
  -- a job, and what is done of it
  pub record IsRunBy (job : HostJob) (d : Done) : Type 0 where
    pub task : HostTask
    pub dealt : slice_get tasks job.number ≡ Some task
    pub run : IsRunOf net end job.number task (rec job.number) job.ran d

  abbrev pub AreRun : List HostJob → List Done → Type 0
  AreRun [] [] = Unit {0}
  AreRun [] (d ∷ ds) = ⊥
  AreRun (j ∷ js) [] = ⊥
  AreRun (j ∷ js) (d ∷ ds) = IsRunBy j d × AreRun js ds

  run-append : (js is : List HostJob) (ds es : List Done) → AreRun js ds → AreRun is es → AreRun (js ++ is) (ds ++ es)
  run-append [] is [] es a b = b
  run-append [] is (d ∷ ds) es a b = absurd a
  run-append (j ∷ js) is [] es a b = absurd a
  run-append (j ∷ js) is (d ∷ ds) es a b = (a.0, run-append js is ds es a.1 b)

  run_done : (worker : ℕ) (js : List HostJob) (ds : List Done) → AreDone net end worker tasks rec js ds → AreRun js ds
  run_done worker [] [] a = tt
  run_done worker [] (d ∷ ds) a = absurd a
  run_done worker (j ∷ js) [] a = absurd a
  run_done worker (j ∷ js) (d ∷ ds) a = (record { task = a.0.task; dealt = a.0.dealt; run = a.0.run }, run_done worker js ds a.1)

  pub works_run : (worker : ℕ) (jobs : List (List HostJob)) (works : List Worked) → AreWorks net end tasks rec worker jobs works → AreRun (joined jobs) (all_done works)
  works_run worker [] [] a = tt
  works_run worker [] (w ∷ ws) a = absurd a
  works_run worker (js ∷ jss) [] a = absurd a
  works_run worker (js ∷ jss) (w ∷ ws) a = run-append js (joined jss) w.done.items (all_done ws) (run_done worker js w.done.items a.0) (works_run (suc worker) jss ws a.1)

  by_worker_is : (worker : ℕ) (js : List HostJob) (ds : List Done) → AreDone net end worker tasks rec js ds → Each (λ (j : HostJob). j.worker ≡ worker) js
  by_worker_is worker [] ds a j h = absurd h
  by_worker_is worker (i ∷ js) [] a j h = absurd a
  by_worker_is worker (i ∷ js) (d ∷ ds) a j (inl same) = ap (λ (x : HostJob). x.worker) same ∙ a.0.by_worker
  by_worker_is worker (i ∷ js) (d ∷ ds) a j (inr h) = by_worker_is worker js ds a.1 j h

  pub workers_below : (worker : ℕ) (jobs : List (List HostJob)) (works : List Worked) → AreWorks net end tasks rec worker jobs works → Each (λ (j : HostJob). j.worker < worker + length works) (joined jobs)
  workers_below worker [] works a j h = absurd h
  workers_below worker (js ∷ jss) [] a j h = absurd a
  workers_below worker (js ∷ jss) (w ∷ ws) a j h = ⊎_elim
      (λ (l : IsIn j js). (let is = by_worker_is worker js w.done.items a.0 j l in omega arith))
      (λ (r : IsIn j (joined jss)). (let b = workers_below (suc worker) jss ws a.1 j r in omega arith))
      (IsIn_either j js (joined jss) h)

  pub done_number : (js : List HostJob) (ds : List Done) → AreRun js ds → done_numbers ds ≡ numbers js
  done_number [] [] a = refl
  done_number [] (d ∷ ds) a = absurd a
  done_number (j ∷ js) [] a = absurd a
  done_number (j ∷ js) (d ∷ ds) a = λ i. a.0.run.id i ∷ done_number js ds a.1 i

  -- the job of what is done
  pub job_done : (js : List HostJob) (ds : List Done) → AreRun js ds → (d : Done) → IsIn d ds → (j : HostJob) × IsIn j js × IsRunBy j d
  job_done [] [] a d h = absurd h
  job_done [] (e ∷ es) a d h = absurd a
  job_done (j ∷ js) [] a d h = absurd a
  job_done (j ∷ js) (e ∷ es) a d (inl same) = (j, inl refl, subst (IsRunBy j) (sym same) a.0)
  job_done (j ∷ js) (e ∷ es) a d (inr h) = let r = job_done js es a.1 d h in (r.0, inr r.1, r.2)

  pub done_job : (js : List HostJob) (ds : List Done) → AreRun js ds → (j : HostJob) → IsIn j js → (d : Done) × IsIn d ds × IsRunBy j d
  done_job [] ds a j h = absurd h
  done_job (i ∷ js) [] a j h = absurd a
  done_job (i ∷ js) (d ∷ ds) a j (inl same) = (d, inl refl, subst (λ (x : HostJob). IsRunBy x d) (sym same) a.0)
  done_job (i ∷ js) (d ∷ ds) a j (inr h) = let r = done_job js ds a.1 j h in (r.0, inr r.1, r.2)

  pub run_queues : (js : List HostJob) (ds : List Done) → AreRun js ds → IsPermutation (flat_map (λ (d : Done). d.host.value.queue) ds) (flat_map (λ (j : HostJob). j.ran.queue) js)
  run_queues [] [] a = IsPermutation-refl []
  run_queues [] (d ∷ ds) a = absurd a
  run_queues (j ∷ js) [] a = absurd a
  run_queues (j ∷ js) (d ∷ ds) a =
      IsPermutation-append d.host.value.queue j.ran.queue (flat_map (λ (e : Done). e.host.value.queue) ds) (flat_map (λ (i : HostJob). i.ran.queue) js) a.0.run.queue (run_queues js ds a.1)

  pub run_lines : (js : List HostJob) (ds : List Done) → AreRun js ds → lines_done ds ≡ map kept_line (lines_in js)
  run_lines [] [] a = refl
  run_lines [] (d ∷ ds) a = absurd a
  run_lines (j ∷ js) [] a = absurd a
  run_lines (j ∷ js) (d ∷ ds) a = (λ i. a.0.run.lines i ++ run_lines js ds a.1 i) ∙ sym (map-append kept_line j.ran.lines (lines_in js))

  pub run_packets : (js : List HostJob) (ds : List Done) → AreRun js ds → map parcel_event (parcels_made net js) ≡ packets_in js
  run_packets [] [] a = refl
  run_packets [] (d ∷ ds) a = absurd a
  run_packets (j ∷ js) [] a = absurd a
  run_packets (j ∷ js) (d ∷ ds) a = map-append parcel_event (parcels_by net j) (parcels_made net js) ∙ (λ i. a.0.run.packets i ++ run_packets js ds a.1 i)

  abbrev pub held : ℕ → List Event
  held k = part_at waiting tasks k

  -- what the jobs' hosts started from
  pub run_starts : ((k : ℕ) (t : HostTask) → slice_get tasks k ≡ Some t → Each (λ (e : Event). home net e ≡ k) (waiting t)) → (js : List HostJob) (ds : List Done) → AreRun js ds
      → (starts : List (List Event)) × StartFrom (model net) end rec held js starts
  run_starts own [] [] a = ([], tt)
  run_starts own [] (d ∷ ds) a = absurd a
  run_starts own (j ∷ js) [] a = absurd a
  run_starts own (j ∷ js) (d ∷ ds) a =
      let r : IsRunBy j d = a.0 in
      let more = run_starts own js ds a.1 in (
        r.run.start ∷ more.0,
        (
          record {
            own = λ e h. own j.number r.task r.dealt e (IsIn_permutation e r.run.start (waiting r.task) r.run.joined h);
            moved = subst (IsPermutation r.run.start) (sym (ap (part_in waiting) r.dealt)) r.run.joined;
            runs = r.run.runs;
          },
          more.1,
        ),
      )
