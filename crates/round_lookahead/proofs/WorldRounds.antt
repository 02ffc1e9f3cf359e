-- What a round of the world leaves.
use Rattle.std.proofs.Common.{◌≡◌, ℕ, ◌<◌, ◌≤◌, ⊎_elim, List, [], ◌∷◌, ◌++◌, Some, map, flat_map, length, slice_get, sym, ap, subst, ◌∙◌, arith, IsPermutation, Vec, Contains}
use Rattle.std.specs.declared.alloc.Global.{Global}
use Rattle.std.proofs.lemmas.List.Sorted.{IsPermutation-sym, All-permutation}
use Rattle.sim_base.specs.declared.event.Event.{Event}
use Rattle.sim_base.specs.declared.event.Parcel.{Parcel}
use Rattle.sim_base.specs.declared.time.Time.{Time}
use Rattle.list_weights.specs.Weights.{weigh, numbers_below}
use Rattle.event_order.specs.Events.{IsLeastDue}
use Rattle.steal_workers.specs.Gathers.{joined}
use Rattle.host_link.specs.declared.line.Line.{Line}
use Rattle.host_state.specs.Fits.{model, IsEventOf}
use Rattle.host_link.specs.Home.{home}
use Rattle.host_state.specs.HostRecord.{HostRecord}
use Rattle.host_link.specs.Parcels.{parcel_event}
use Rattle.host_state.proofs.Simulations as hosts
use Rattle.world_order.specs.EventOrder.{AreApart, copies}
use Rattle.world_order.specs.Premises.{Simulation}
use Rattle.world_order.specs.Round.{Going, Closed, opened, in_order}
use Rattle.world_order.specs.Rounds.{after_round, IsSameWorld}
use Rattle.world_order.specs.Schedule.{after_all}
use Rattle.world_order.specs.declared.step.Step.TheVariants.{Close}
use Rattle.world_order.specs.Settled.{IsSettled, AreDueFrom}
use Rattle.world_order.specs.Window.{window_end}
use Rattle.world_order.specs.World as order
use Rattle.world_order.specs.WholeTurns.{turn_of, job_steps}
use Rattle.world_order.proofs.Apart.{copies_append, AreApart_permutation, apart_right, same_members}
use Rattle.world_order.proofs.Members.{IsIn, IsIn_left, IsIn_right, IsIn_either, IsIn_permutation, IsIn_from_Contains, Each, Each_from_All, All_from_Each}
use Rattle.round_lookahead.specs.declared.workers.host_task.HostTask.{HostTask}
use Rattle.round_lookahead.specs.declared.workers.worked.Done.{Done}
use Rattle.round_lookahead.specs.declared.workers.worked.Worked.{Worked}
use Rattle.round_lookahead.specs.declared.world.world_state.World.{World}
use Rattle.round_parts.specs.Arrivals.{Boxed}
use Rattle.round_lookahead.specs.inside.Backs.{all_done, all_spilled}
use Rattle.round_parts.specs.Rows.{row_arrivals}
use Rattle.round_lookahead.specs.inside.Rounds.{IsRound, all_parcels}
use Rattle.round_lookahead.specs.inside.Settles.{CanSettle}
use Rattle.round_lookahead.specs.Tasks.{waiting}
use Rattle.round_lookahead.specs.Works.{HostJob, parcels_made}
use Rattle.round_lookahead.specs.WorldStands.{HostWorld, nanos_of, WorldStands}
use Rattle.round_lookahead.proofs.RoundJobs as round_jobs
use Rattle.round_lookahead.proofs.RoundOrders.{StartFrom, all_parts}
use Rattle.round_lookahead.proofs.RunSteps.{AreRun, works_run, workers_below, done_number, run_packets, run_starts, held}
use Rattle.round_lookahead.proofs.WholeRounds.{packets_in, lines_in}
use Rattle.round_lookahead.proofs.WorldSteps.{simulation, between_settled, in_map, of_map, host_at, rec, rec_is, made_to, key_weight, copies_weight, copies_rows, weigh_flat, map_both, unboxed_arrivals}

module _ (c : World) (w : HostWorld) (stands : WorldStands c w) (least : Time) (due : IsLeastDue (flat_map waiting c.tasks.items) (Some least)) (workers : ℕ)
    (works : List Worked) (rows : List (Vec Boxed Global)) (many : length works ≡ workers)
    (round : IsRound c.net (window_end (nanos_of c.lookahead) c.net.stop.nanos least.nanos) c.tasks.items (rec c w stands) works rows) where
  abbrev end : ℕ
  end = window_end (nanos_of c.lookahead) c.net.stop.nanos least.nanos

  abbrev sim : Simulation HostRecord Line
  sim = simulation c.net (nanos_of c.lookahead) stands.rounds

  abbrev tasks : List HostTask
  tasks = c.tasks.items

  abbrev jobs : List HostJob
  jobs = joined round.jobs

  abbrev ds : List Done
  ds = all_done works

  pub are_run : AreRun c.net end tasks (rec c w stands) jobs ds
  are_run = works_run c.net end tasks (rec c w stands) 0 round.jobs works round.done

  settled : IsSettled sim w
  settled = between_settled c.net (nanos_of c.lookahead) stands.rounds w stands.between

  pub from : AreDueFrom least.nanos w.events
  from = All-permutation (λ (e : Event). least.nanos ≤ e.key.due.nanos) (flat_map waiting tasks) w.events stands.events due.1

  of : Each (λ (j : HostJob). j.worker < workers) jobs
  of j h = (let b = workers_below c.net end tasks (rec c w stands) 0 round.jobs works round.done j h in omega arith)

  pub once : IsPermutation (round_jobs.numbers jobs) (numbers_below (length w.hosts))
  once = subst (λ (n : ℕ). IsPermutation (round_jobs.numbers jobs) (numbers_below n)) stands.count round.each_once

  held_all : IsPermutation (flat_map (held c.net end tasks (rec c w stands)) (numbers_below (length w.hosts))) w.events
  held_all =
      subst (λ (l : List Event). IsPermutation l w.events)
      (sym (ap (λ (n : ℕ). flat_map (held c.net end tasks (rec c w stands)) (numbers_below n)) (sym stands.count) ∙ all_parts waiting tasks)) stands.events

  starts : (ss : List (List Event)) × StartFrom (model c.net) end (rec c w stands) (held c.net end tasks (rec c w stands)) jobs ss
  starts = run_starts c.net end tasks (rec c w stands)
      (λ k t at. (let h = host_at c w stands k t at in Each_from_All (λ (e : Event). home c.net e ≡ k) (waiting t) (stands.hosts k t h.0 at h.1).home)) jobs ds are_run

  pub next : HostWorld
  next = round_jobs.next_world sim c.net.stop.nanos least.nanos workers w settled from jobs of once (rec c w stands) (rec_is c w stands) (held c.net end tasks (rec c w stands)) held_all starts.0 starts.1

  pub next_result : order.IsResult (model c.net) end next w
  unfolding next
  next_result = round_jobs.next_result sim c.net.stop.nanos least.nanos workers w settled from jobs of once (rec c w stands) (rec_is c w stands) (held c.net end tasks (rec c w stands)) held_all starts.0 starts.1

  pub next_settled : IsSettled sim next
  unfolding next
  next_settled = round_jobs.next_settled sim c.net.stop.nanos least.nanos workers w settled from jobs of once (rec c w stands) (rec_is c w stands) (held c.net end tasks (rec c w stands)) held_all starts.0 starts.1

  pub next_count : length next.hosts ≡ length w.hosts
  unfolding next
  next_count = round_jobs.next_count sim c.net.stop.nanos least.nanos workers w settled from jobs of once (rec c w stands) (rec_is c w stands) (held c.net end tasks (rec c w stands)) held_all starts.0 starts.1

  pub next_host : (j : HostJob) → IsIn j jobs → slice_get next.hosts j.number ≡ Some j.ran.host
  unfolding next
  next_host = round_jobs.next_host sim c.net.stop.nanos least.nanos workers w settled from jobs of once (rec c w stands) (rec_is c w stands) (held c.net end tasks (rec c w stands)) held_all starts.0 starts.1

  pub next_log : next.log ≡ w.log ++ in_order (lines_in jobs)
  unfolding next
  next_log = round_jobs.next_log sim c.net.stop.nanos least.nanos workers w settled from jobs of once (rec c w stands) (rec_is c w stands) (held c.net end tasks (rec c w stands)) held_all starts.0 starts.1

  pub next_events : (ts : List HostTask) → length ts ≡ length w.hosts → ((j : HostJob) → IsIn j jobs → (t : HostTask) → slice_get ts j.number ≡ Some t → IsPermutation t.host.value.queue j.ran.queue)
      → IsPermutation (flat_map (λ (t : HostTask). t.host.value.queue) ts ++ packets_in jobs) next.events
  unfolding next
  next_events ts = round_jobs.next_events sim c.net.stop.nanos least.nanos workers w settled from jobs of once (rec c w stands) (rec_is c w stands) (held c.net end tasks (rec c w stands)) held_all starts.0 starts.1
      (λ (t : HostTask). t.host.value.queue) ts

  next_queues : IsPermutation (flat_map (λ (j : HostJob). j.ran.queue) jobs ++ packets_in jobs) next.events
  unfolding next
  next_queues = round_jobs.next_queues sim c.net.stop.nanos least.nanos workers w settled from jobs of once (rec c w stands) (rec_is c w stands) (held c.net end tasks (rec c w stands)) held_all starts.0 starts.1

  pub next_over : AreDueFrom end next.events
  unfolding next
  next_over = round_jobs.next_over sim c.net.stop.nanos least.nanos workers w settled from jobs of once (rec c w stands) (rec_is c w stands) (held c.net end tasks (rec c w stands)) held_all starts.0 starts.1

  -- ---- packets

  abbrev made : List Parcel
  made = parcels_made c.net jobs

  abbrev laid : List Event
  laid = map parcel_event (all_spilled works) ++ row_arrivals rows

  packets_are : map parcel_event made ≡ packets_in jobs
  packets_are = run_packets c.net end tasks (rec c w stands) jobs ds are_run

  parcels_are : map parcel_event (all_parcels rows works) ≡ row_arrivals rows ++ map parcel_event (all_spilled works)
  parcels_are =
      map_both parcel_event (flat_map (λ (r : Vec Boxed Global). map (λ (b : Boxed). b.value) r.items) rows) (all_spilled works)
      ∙ ap (λ (l : List Event). l ++ map parcel_event (all_spilled works)) (unboxed_arrivals rows)

  packets_apart : AreApart (packets_in jobs)
  packets_apart =
      apart_right (flat_map (λ (j : HostJob). j.ran.queue) jobs) (packets_in jobs)
      (AreApart_permutation next.events (flat_map (λ (j : HostJob). j.ran.queue) jobs ++ packets_in jobs)
      (IsPermutation-sym (flat_map (λ (j : HostJob). j.ran.queue) jobs ++ packets_in jobs) next.events next_queues) next_settled.apart)

  laid_apart : AreApart laid
  laid_apart k =
      let both = copies_append k (map parcel_event (all_spilled works)) (row_arrivals rows) in
      let spilled : copies k (map parcel_event (all_spilled works)) ≡ weigh (λ (v : Worked). weigh (key_weight k) v.spill.items) works =
      copies_weight k (all_spilled works) ∙ weigh_flat (key_weight k) (λ (v : Worked). v.spill.items) works in
      let rowed = copies_rows k rows in
      let same = round.parcels (key_weight k) in
      let all : copies k (packets_in jobs) ≡ weigh (key_weight k) made = ap (copies k) (sym packets_are) ∙ copies_weight k made in
      let most = packets_apart k in
      omega arith

  either_way : (e : Event) (a b : List Event) → IsIn e (a ++ b) → IsIn e (b ++ a)
  either_way e a b h = ⊎_elim (λ (l : IsIn e a). IsIn_right e b a l) (λ (r : IsIn e b). IsIn_left e b a r) (IsIn_either e a b h)

  into_packets : (e : Event) → IsIn e laid → IsIn e (packets_in jobs)
  into_packets e h =
      let p = of_map parcel_event (all_parcels rows works) e (subst (IsIn e) (sym parcels_are) (either_way e (map parcel_event (all_spilled works)) (row_arrivals rows) h)) in
      let q : IsIn p.0 made = IsIn_from_Contains p.0 made (Each_from_All (λ (x : Parcel). Contains made x) (all_parcels rows works) round.into p.0 p.1) in
      subst (λ (x : Event). IsIn x (packets_in jobs)) (sym p.2) (subst (IsIn (parcel_event p.0)) packets_are (in_map parcel_event made p.0 q))

  back_packets : (e : Event) → IsIn e (packets_in jobs) → IsIn e laid
  back_packets e h =
      let p = of_map parcel_event made e (subst (IsIn e) (sym packets_are) h) in
      let q : IsIn p.0 (all_parcels rows works) = IsIn_from_Contains p.0 (all_parcels rows works) (Each_from_All (λ (x : Parcel). Contains (all_parcels rows works) x) made round.back p.0 p.1) in
      either_way e (row_arrivals rows) (map parcel_event (all_spilled works))
      (subst (λ (x : Event). IsIn x (row_arrivals rows ++ map parcel_event (all_spilled works))) (sym p.2) (subst (IsIn (parcel_event p.0)) parcels_are (in_map parcel_event (all_parcels rows works) p.0 q)))

  pub laid_packets : IsPermutation laid (packets_in jobs)
  laid_packets = same_members laid (packets_in jobs) laid_apart packets_apart into_packets back_packets

  -- each parcel that lies somewhere is for the host at which it fires
  pub laid_home : Each (λ (p : Parcel). home c.net (parcel_event p) ≡ p.to.index) (all_parcels rows works)
  laid_home p h = sym (made_to c.net jobs p (IsIn_from_Contains p made (Each_from_All (λ (x : Parcel). Contains made x) (all_parcels rows works) round.into p h)))

  laid_below : Each (λ (p : Parcel). p.to.index < length tasks) (all_parcels rows works)
  laid_below p h =
      let q : IsIn p made = IsIn_from_Contains p made (Each_from_All (λ (x : Parcel). Contains made x) (all_parcels rows works) round.into p h) in
      let e : Event = parcel_event p in
      let there : IsIn e next.events = IsIn_permutation e (flat_map (λ (j : HostJob). j.ran.queue) jobs ++ packets_in jobs) next.events next_queues
      (IsIn_right e (flat_map (λ (j : HostJob). j.ran.queue) jobs) (packets_in jobs) (subst (IsIn e) packets_are (in_map parcel_event made p q))) in
      let good : IsEventOf c.net e = Each_from_All (IsEventOf c.net) next.events next_settled.events e there in
      let within = hosts.home_within c.net e good in
      let to = made_to c.net jobs p q in
      let count = stands.count in
      let whole = stands.between.count in
      omega arith

  pub in_spill : (p : Parcel) → IsIn p (all_spilled works) → IsIn p (all_parcels rows works)
  in_spill p h = IsIn_right p (flat_map (λ (r : Vec Boxed Global). map (λ (b : Boxed). b.value) r.items) rows) (all_spilled works) h

  pub can_settle : CanSettle (length tasks) works rows
  can_settle = record {
    once = subst (λ (ns : List ℕ). IsPermutation ns (numbers_below (length tasks))) (sym (done_number c.net end tasks (rec c w stands) jobs ds are_run)) round.each_once;
    rows_count = round.rows_are.count;
    to = All_from_Each (λ (p : Parcel). p.to.index < length tasks) (all_spilled works) (λ p h. laid_below p (in_spill p h));
  }

  pub steps_taken : (js : List HostJob) × (closed : HostWorld) × (map turn_of js ≡ map turn_of jobs)
      × (after_all (model c.net) (flat_map job_steps js ++ Close ∷ []) (Going (opened (model c.net) end workers w)) ≡ Some (Closed closed)) × IsSameWorld next (after_round w closed)
  unfolding next
  steps_taken = round_jobs.steps_taken sim c.net.stop.nanos least.nanos workers w settled from jobs of once (rec c w stands) (rec_is c w stands) (held c.net end tasks (rec c w stands)) held_all starts.0 starts.1
