-- The whole round, from the deal to the drained rows.
use Rattle.std.proofs.Common.{◌≡◌, ℕ, suc, ◌+◌, ◌<◌, List, [], ◌∷◌, ◌++◌, All, Some, map, length, get_or, refl, sym, ap, subst, ◌∙◌, arith, append-nil, IsPermutation, Vec}
use Rattle.std.proofs.lemmas.List.Elements.{All-nil, All-cons, All-head, All-tail}
use Rattle.std.specs.List.{flat_map}
use Rattle.std.specs.declared.alloc.Global.{Global}
use Rattle.list_weights.specs.Weights.{weigh, numbers_below}
use Rattle.host_inbox.specs.declared.entry.Entry.{Entry}
use Rattle.host_inbox.specs.CarrierViews.{BoardsView, CarrierView, AreAllOf, AreOpen}
use Rattle.host_inbox.specs.Drains.{all_entries, IsDrained}
use Rattle.host_inbox.specs.Kept.{AreKept, back_weight}
use Rattle.host_inbox.proofs.RowSteps.{rows_hold}
use Rattle.steal_workers.specs.declared.item.Numbered.{Numbered}
use Rattle.steal_workers.specs.Deals.{Deal}
use Rattle.steal_workers.specs.Gathers.{joined, AreOwnMarked, IsGathered}
use Rattle.steal_workers.specs.SeatViews.{SeatView, AreSameSeats}
use Rattle.steal_workers.specs.inside.TookBack.{numbers_of}
use Rattle.steal_workers.specs.WholeDeals.{common_deal, IsWholeDeal, IsNewDeal}
use Rattle.steal_workers.proofs.SameSeats.{same_seats_whole, same_deal}
use Rattle.host_link.specs.Net.{Net}
use Rattle.host_state.specs.HostRecord.{HostRecord}
use Rattle.round_lookahead.specs.declared.workers.bench.Bench.{Bench}
use Rattle.round_lookahead.specs.declared.workers.host_task.HostTask.{HostTask}
use Rattle.round_lookahead.specs.declared.workers.worked.Worked.{Worked}
use Rattle.round_parts.specs.Arrivals.{Boxed}
use Rattle.round_lookahead.specs.inside.Benches.{AreBenches, AreParts, HaveWorked, IsReady, IsUnusedOf}
use Rattle.round_lookahead.specs.inside.Rounds.{IsRound}
use Rattle.round_lookahead.specs.Tasks.{AreTasks, AreTasksOf}
use Rattle.round_lookahead.specs.Works.{numbers, parcels_made}
use Rattle.round_lookahead.proofs.Spreads.{AreSpread, into, back}
use Rattle.round_lookahead.proofs.RoundSteps.{boxed_weight, entry_parcel, same_seats, same_carriers, are_marked, AreFresh, AllWork, all_work}

-- what holds of all seats holds at all benches
at_benches : (P : SeatView HostTask → Type 0) (bs : List Bench) → All P (map (λ (b : Bench). b.seat) bs) → All (λ (b : Bench). P b.seat) bs
at_benches P [] all = All-nil _
at_benches P (b ∷ bs) all =
    All-cons (λ (b : Bench). P b.seat) b bs (All-head P b.seat (map (λ (b : Bench). b.seat) bs) all) (at_benches P bs (All-tail P b.seat (map (λ (b : Bench). b.seat) bs) all))

module _ (net : Net) (end : ℕ) (tasks : List HostTask) (workers : ℕ) (seats : List (SeatView HostTask)) (boards : BoardsView) (carriers : List (CarrierView Boxed)) (olds : List Bench)
    (new : IsNewDeal tasks workers seats) (open_are : AreOpen (length tasks) workers boards carriers) (at : AreBenches seats carriers olds) where
  of_deal : All (λ (b : Bench). b.seat.deal.tasks ≡ tasks) olds
  of_deal =
      at_benches (λ (s : SeatView HostTask). s.deal.tasks ≡ tasks) olds
      (subst (All (λ (s : SeatView HostTask). s.deal.tasks ≡ tasks)) (sym at.seats_are)
      (λ k e within. ap (λ (d : Deal HostTask). d.tasks) ((new.whole).one_deal k e within) ∙ new.tasks_dealt))

  no_numbers : All (λ (b : Bench). b.seat.numbers ≡ []) olds
  no_numbers =
      at_benches (λ (s : SeatView HostTask). s.numbers ≡ []) olds
      (subst (All (λ (s : SeatView HostTask). s.numbers ≡ [])) (sym at.seats_are) (λ k e within. (new.fresh k e within).0))

  unused : All (λ (b : Bench). IsUnusedOf boards.id b.carrier) olds
  unused = at.carriers_are boards.id (λ k e within. (((open_are.carriers_are).theirs) k e within, open_are.no_entries k e within))

  pub ready : AreTasksOf net tasks → All (IsReady net boards) olds
  ready are k e within = record {
    tasks = subst (AreTasksOf net) (sym (of_deal k e within)) are;
    carrier = unused k e within;
  }

  module _ (news : List Bench) (have : HaveWorked net end olds news) (seats' : List (SeatView HostTask)) (carriers' : List (CarrierView Boxed)) (works : List Worked)
      (parts : AreParts news seats' carriers' works) where
    same : AreSameSeats (map (λ (b : Bench). b.seat) olds) (map (λ (b : Bench). b.seat) news)
    same = same_seats net end olds news have

    pub whole : IsWholeDeal seats'
    whole =
        subst IsWholeDeal (sym parts.seats_are)
        (same_seats_whole (map (λ (b : Bench). b.seat) olds) (map (λ (b : Bench). b.seat) news) same (subst IsWholeDeal (sym at.seats_are) new.whole))

    carriers_same : All (λ (c : CarrierView Boxed). c.boards ≡ boards.id) (map (λ (b : Bench). b.carrier) news) × (length (map (λ (b : Bench). b.carrier) news) ≡ length (map (λ (b : Bench). b.seat) olds))
    carriers_same = same_carriers net end boards.id olds news have unused

    pub all_carriers : AreAllOf boards carriers'
    all_carriers = record {
      theirs = subst (All (λ (c : CarrierView Boxed). c.boards ≡ boards.id)) (sym parts.carriers_are) carriers_same.0;
      count = ap length parts.carriers_are ∙ carriers_same.1 ∙ ap length at.seats_are ∙ new.count ∙ sym open_are.seats_are;
    }

    length_some : (ws : List Worked) → length (map Some ws) ≡ length ws
    length_some [] = refl
    length_some (w ∷ ws) = ap suc (length_some ws)

    length_worked : (bs : List Bench) → length (map (λ (b : Bench). b.worked) bs) ≡ length (map (λ (b : Bench). b.carrier) bs)
    length_worked [] = refl
    length_worked (b ∷ bs) = ap suc (length_worked bs)

    pub works_count : length works ≡ workers
    works_count = sym (length_some works) ∙ ap length parts.works_are ∙ length_worked news ∙ carriers_same.1 ∙ ap length at.seats_are ∙ new.count

    marked : AreOwnMarked seats'
    marked = subst AreOwnMarked (sym parts.seats_are) (are_marked net end olds news works have parts.works_are)

    deal_tasks : (common_deal seats').tasks ≡ tasks
    deal_tasks =
        ap (λ (s : List (SeatView HostTask)). (common_deal s).tasks) parts.seats_are
        ∙ ap (λ (d : Deal HostTask). d.tasks) (same_deal (map (λ (b : Bench). b.seat) olds) (map (λ (b : Bench). b.seat) news) same)
        ∙ ap (λ (s : List (SeatView HostTask)). (common_deal s).tasks) at.seats_are ∙ new.tasks_dealt

    module _ (left : List (Numbered HostTask)) (gathered : IsGathered seats' left) (rows : List (Vec Boxed Global)) (drained : IsDrained boards.hosts (all_entries carriers') rows)
        (kept : AreKept (all_entries carriers') rows) where
      pub rows_count : length rows ≡ length tasks
      rows_count = drained.count ∙ open_are.hosts_are

      module _ (rec : ℕ → HostRecord) (are : AreTasks net tasks rec) where
        fresh_from : (n : ℕ) (bs : List Bench) → ((k : ℕ) (e : Bench) → k < length bs → (get_or bs k e).worker ≡ n + k) → All (λ (b : Bench). b.seat.deal.tasks ≡ tasks) bs
            → All (λ (b : Bench). b.seat.numbers ≡ []) bs → AreFresh net end tasks rec are n bs
        fresh_from n [] workers_are of none = tt
        fresh_from n (b ∷ bs) workers_are of none = (
          record { worker_is = (let w = workers_are 0 b (omega arith) in omega arith); tasks_are = All-head (λ (b : Bench). b.seat.deal.tasks ≡ tasks) b bs of; none = All-head (λ (b : Bench). b.seat.numbers ≡ []) b bs none },
          fresh_from (suc n) bs (λ k e within. (let w = workers_are (suc k) e (omega arith) in omega arith)) (All-tail (λ (b : Bench). b.seat.deal.tasks ≡ tasks) b bs of) (All-tail (λ (b : Bench). b.seat.numbers ≡ []) b bs none),
        )

        all : AllWork net end tasks rec are 0 news works
        all = all_work net end tasks rec are 0 olds news works (fresh_from 0 olds (λ k e within. (let w = at.workers_are k e within in omega arith)) of_deal no_numbers) have parts.works_are

        entries_are : all_entries carriers' ≡ all_entries (map (λ (b : Bench). b.carrier) news)
        entries_are = ap all_entries parts.carriers_are

        numbers_is : joined (map (λ (seat : SeatView HostTask). seat.numbers) seats') ++ numbers_of left ≡ numbers (joined all.jobs)
        numbers_is =
            ap (λ (l : List (Numbered HostTask)). joined (map (λ (seat : SeatView HostTask). seat.numbers) seats') ++ numbers_of l) (gathered.none_left marked)
            ∙ append-nil (joined (map (λ (seat : SeatView HostTask). seat.numbers) seats'))
            ∙ ap (λ (s : List (SeatView HostTask)). joined (map (λ (seat : SeatView HostTask). seat.numbers) s)) parts.seats_are ∙ sym all.numbers_are

        spread : AreSpread (parcels_made net (joined all.jobs)) (all_entries carriers') (flat_map (λ (w : Worked). w.spill.items) works)
        spread = subst (λ (es : List (Entry Boxed)). AreSpread (parcels_made net (joined all.jobs)) es (flat_map (λ (w : Worked). w.spill.items) works)) (sym entries_are) all.spread

        pub is_round : IsRound net end tasks rec works rows
        is_round = record {
          jobs = all.jobs;
          done = all.done;
          each_once =
              subst (λ (ts : List HostTask). IsPermutation (numbers (joined all.jobs)) (numbers_below (length ts))) deal_tasks
              (subst (λ (l : List ℕ). IsPermutation l (numbers_below (length (common_deal seats').tasks))) numbers_is gathered.each_once);
          parcels = λ h.
              (let k = kept (boxed_weight h) in
              let m = subst (λ (es : List (Entry Boxed)). weigh h (parcels_made net (joined all.jobs)) + weigh (back_weight (boxed_weight h)) es ≡ weigh (λ (w : Worked). weigh h w.spill.items) works + weigh (entry_parcel h) es)
              (sym entries_are) (all.weighs h) in
              omega arith);
          rows_are = record {
            count = rows_count;
            theirs = rows_hold (λ host (b : Boxed). b.value.to.index ≡ host) boards.hosts (all_entries carriers') rows drained
                (subst (All (λ (e : Entry Boxed). e.parcel.value.to.index ≡ e.host)) (sym entries_are) all.theirs);
          };
          into = into boards.hosts (parcels_made net (joined all.jobs)) (all_entries carriers') rows works drained spread;
          back = back boards.hosts (parcels_made net (joined all.jobs)) (all_entries carriers') rows works drained spread;
        }
