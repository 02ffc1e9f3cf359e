-- From benches to what a round leaves.
use Rattle.std.proofs.Common.{◌≡◌, ℕ, zero, suc, ◌+◌, ◌<◌, Bool, true, false, List, [], ◌∷◌, ◌++◌, All, Option, Some, map, length, cond, get_or, nat_le, refl, sym, ap, subst, ◌∙◌, arith}
use Rattle.std.proofs.lemmas.List.Elements.{All-nil, All-cons, All-head, All-tail, All-append}
use Rattle.std.specs.List.{flat_map}
use Rattle.atomic_table.specs.Seated.{TableId}
use Rattle.sim_base.specs.declared.event.Parcel.{Parcel}
use Rattle.list_weights.specs.Weights.{weigh, only}
use Rattle.list_weights.proofs.Weights.{weigh_append}
use Rattle.host_inbox.specs.declared.entry.Entry.{Entry}
use Rattle.host_inbox.specs.CarrierViews.{CarrierView}
use Rattle.host_inbox.specs.Drains.{all_entries}
use Rattle.host_inbox.specs.Kept.{back_weight}
use Rattle.steal_workers.specs.Gathers.{joined, AreOwnMarked}
use Rattle.steal_workers.specs.SeatViews.{SeatView, IsSameSeat, AreSameSeats, HasMark}
use Rattle.host_link.specs.Net.{Net}
use Rattle.host_state.specs.HostRecord.{HostRecord}
use Rattle.round_lookahead.specs.declared.workers.bench.Bench.{Bench}
use Rattle.round_lookahead.specs.declared.workers.host_task.HostTask.{HostTask}
use Rattle.round_lookahead.specs.declared.workers.worked.Worked.{Worked}
use Rattle.round_parts.specs.Arrivals.{Boxed}
use Rattle.round_lookahead.specs.inside.Benches.{HasWorked, HaveWorked}
use Rattle.round_parts.specs.Posts.{IsPosted, carried, given_back}
use Rattle.round_lookahead.specs.inside.Rounds.{AreWorks}
use Rattle.round_lookahead.specs.Tasks.{AreTasks}
use Rattle.round_lookahead.specs.Works.{HostJob, IsWork, numbers, parcels_made}
use Rattle.round_lookahead.proofs.Spreads.{AreSpread, spread_one, spread_none, spread_more}
use Rattle.round_lookahead.proofs.WorkSteps.{made_append, numbers_append}

-- ---- weights of parcels

abbrev pub entry_parcel : (Parcel → ℕ) → Entry Boxed → ℕ
entry_parcel h e = h e.parcel.value

abbrev pub boxed_weight : (Parcel → ℕ) → Boxed → ℕ
boxed_weight h b = h b.value

weigh_carried : (h : Parcel → ℕ) (es : List (Entry Boxed)) → weigh h (carried es) ≡ weigh (entry_parcel h) es
weigh_carried h [] = refl
weigh_carried h (e ∷ es) = ap (λ (n : ℕ). h e.parcel.value + n) (weigh_carried h es)

back_by : (h : Parcel → ℕ) (e : Entry Boxed) (es : List (Entry Boxed)) (b : Bool) (n : ℕ) → weigh h (carried es) ≡ n → weigh h (carried (cond b (e ∷ es) es)) ≡ only b (h e.parcel.value) + n
back_by h e es true n is = omega arith
back_by h e es false n is = omega arith

weigh_back : (h : Parcel → ℕ) (es : List (Entry Boxed)) → weigh h (carried (given_back es)) ≡ weigh (back_weight (boxed_weight h)) es
weigh_back h [] = refl
weigh_back h (e ∷ es) = back_by h e (given_back es) (nat_le 16 e.number) (weigh (back_weight (boxed_weight h)) es) (weigh_back h es)

-- what one worker's jobs made and what came back is what it put and what it spilled
pub posted_weighs : (h : Parcel → ℕ) (all : List Parcel) (es : List (Entry Boxed)) (spill : List Parcel) → IsPosted all es spill
    → weigh h all + weigh (back_weight (boxed_weight h)) es ≡ weigh h spill + weigh (entry_parcel h) es
posted_weighs h all es spill p =
    let a = ap (weigh h) p.sent ∙ weigh_append h (carried es) p.kept in
    let s = ap (weigh h) p.spilled ∙ weigh_append h (carried (given_back es)) p.kept in
    omega (arith, weigh_carried h es, weigh_back h es)

-- ---- bench by bench

module _ (net : Net) (end : ℕ) where
  rest_worked : (b d : Bench) (bs ds : List Bench) → HaveWorked net end (b ∷ bs) (d ∷ ds) → HaveWorked net end bs ds
  rest_worked b d bs ds have = ((let l = have.0 in omega arith), λ k e within. have.1 (suc k) e (omega arith))

  first_worked : (b d : Bench) (bs ds : List Bench) → HaveWorked net end (b ∷ bs) (d ∷ ds) → HasWorked net end b d
  first_worked b d bs ds have = have.1 0 b (omega arith)

  same_at : (b d : Bench) (bs ds : List Bench) → HasWorked net end b d → AreSameSeats (map (λ (b : Bench). b.seat) bs) (map (λ (b : Bench). b.seat) ds)
      → (k : ℕ) (e : SeatView HostTask) → k < length (map (λ (b : Bench). b.seat) (b ∷ bs)) → IsSameSeat (get_or (map (λ (b : Bench). b.seat) (b ∷ bs)) k e) (get_or (map (λ (b : Bench). b.seat) (d ∷ ds)) k e)
  same_at b d bs ds first rest zero e within = first.seat
  same_at b d bs ds first rest (suc k) e within = rest.1 k e (omega arith)

  -- the seats are the same, later
  pub same_seats : (bs ds : List Bench) → HaveWorked net end bs ds → AreSameSeats (map (λ (b : Bench). b.seat) bs) (map (λ (b : Bench). b.seat) ds)
  same_seats [] [] have = (refl, λ k e within. absurd (omega arith))
  same_seats [] (d ∷ ds) have = absurd (let l = have.0 in omega arith)
  same_seats (b ∷ bs) [] have = absurd (let l = have.0 in omega arith)
  same_seats (b ∷ bs) (d ∷ ds) have =
      let rest = same_seats bs ds (rest_worked b d bs ds have) in
      ((let l = rest.0 in omega arith), same_at b d bs ds (first_worked b d bs ds have) rest)

  -- the carriers stay the boards'
  pub same_carriers : (id : TableId) (bs ds : List Bench) → HaveWorked net end bs ds → All (λ (b : Bench). (b.carrier.boards ≡ id) × (b.carrier.entries ≡ [])) bs
      → All (λ (c : CarrierView Boxed). c.boards ≡ id) (map (λ (b : Bench). b.carrier) ds) × (length (map (λ (b : Bench). b.carrier) ds) ≡ length (map (λ (b : Bench). b.seat) bs))
  same_carriers id [] [] have all = (All-nil _, refl)
  same_carriers id [] (d ∷ ds) have all = absurd (let l = have.0 in omega arith)
  same_carriers id (b ∷ bs) [] have all = absurd (let l = have.0 in omega arith)
  same_carriers id (b ∷ bs) (d ∷ ds) have all =
      let rest = same_carriers id bs ds (rest_worked b d bs ds have) (All-tail (λ (b : Bench). (b.carrier.boards ≡ id) × (b.carrier.entries ≡ [])) b bs all) in
      let first = All-head (λ (b : Bench). (b.carrier.boards ≡ id) × (b.carrier.entries ≡ [])) b bs all in
      (All-cons (λ (c : CarrierView Boxed). c.boards ≡ id) d.carrier _ ((first_worked b d bs ds have).boards ∙ first.0) rest.0, (let l = rest.1 in omega arith))

  heads : (w : Worked) (ws : List Worked) (o : Option Worked) (os : List (Option Worked)) → Some w ∷ map Some ws ≡ o ∷ os → (o ≡ Some w) × (map Some ws ≡ os)
  heads w ws o os is = ((cc), (cc))

  -- each seat has its own mark
  pub are_marked : (bs ds : List Bench) (ws : List Worked) → HaveWorked net end bs ds → map Some ws ≡ map (λ (b : Bench). b.worked) ds → AreOwnMarked (map (λ (b : Bench). b.seat) ds)
  are_marked bs [] ws have is = All-nil _
  are_marked [] (d ∷ ds) ws have is = absurd (let l = have.0 in omega arith)
  are_marked (b ∷ bs) (d ∷ ds) [] have is = absurd (cc)
  are_marked (b ∷ bs) (d ∷ ds) (w ∷ ws) have is =
      let h = heads w ws d.worked (map (λ (b : Bench). b.worked) ds) is in
      All-cons (λ (s : SeatView HostTask). HasMark s s.place) d.seat _ ((first_worked b d bs ds have).marked w h.0) (are_marked bs ds ws (rest_worked b d bs ds have) h.1)

  -- ---- the work of all

  module _ (tasks : List HostTask) (rec : ℕ → HostRecord) (are : AreTasks net tasks rec) where
    -- a bench at which nothing was done yet
    pub record IsFresh (worker : ℕ) (b : Bench) : Type 0 where
      pub worker_is : b.worker ≡ worker
      pub tasks_are : b.seat.deal.tasks ≡ tasks
      pub none : b.seat.numbers ≡ []

    abbrev pub AreFresh : ℕ → List Bench → Type 0
    AreFresh n [] = Unit {0}
    AreFresh n (b ∷ bs) = IsFresh n b × AreFresh (suc n) bs

    pub record AllWork (n : ℕ) (ds : List Bench) (ws : List Worked) : Type 0 where
      pub jobs : List (List HostJob)
      pub done : AreWorks net end tasks rec n jobs ws
      pub numbers_are : numbers (joined jobs) ≡ joined (map (λ (s : SeatView HostTask). s.numbers) (map (λ (b : Bench). b.seat) ds))
      pub weighs : (h : Parcel → ℕ) → weigh h (parcels_made net (joined jobs)) + weigh (back_weight (boxed_weight h)) (all_entries (map (λ (b : Bench). b.carrier) ds))
          ≡ weigh (λ (w : Worked). weigh h w.spill.items) ws + weigh (entry_parcel h) (all_entries (map (λ (b : Bench). b.carrier) ds))
      pub theirs : All (λ (e : Entry Boxed). e.parcel.value.to.index ≡ e.host) (all_entries (map (λ (b : Bench). b.carrier) ds))
      pub spread : AreSpread (parcels_made net (joined jobs)) (all_entries (map (λ (b : Bench). b.carrier) ds)) (flat_map (λ (w : Worked). w.spill.items) ws)

    one_work : (n : ℕ) (b d : Bench) (w : Worked) → IsFresh n b → HasWorked net end b d → d.worked ≡ Some w → IsWork net end n tasks rec [] d.seat.numbers d.carrier.entries w
    one_work n b d w fresh worked is =
        subst (λ (start : List ℕ). IsWork net end n tasks rec start d.seat.numbers d.carrier.entries w) fresh.none
        (subst (λ (k : ℕ). IsWork net end k tasks rec b.seat.numbers d.seat.numbers d.carrier.entries w) fresh.worker_is
        (subst (λ (ts : List HostTask). AreTasks net ts rec → IsWork net end b.worker ts rec b.seat.numbers d.seat.numbers d.carrier.entries w) fresh.tasks_are (worked.work w is rec) are))

    turned : (es : List (Entry Boxed)) → All (λ (e : Entry Boxed). e.host ≡ e.parcel.value.to.index) es → All (λ (e : Entry Boxed). e.parcel.value.to.index ≡ e.host) es
    turned es all k e within = sym (all k e within)

    pub all_work : (n : ℕ) (bs ds : List Bench) (ws : List Worked) → AreFresh n bs → HaveWorked net end bs ds → map Some ws ≡ map (λ (b : Bench). b.worked) ds → AllWork n ds ws
    all_work n bs [] [] fresh have is = record { jobs = []; done = tt; numbers_are = refl; weighs = λ h. refl; theirs = All-nil _; spread = spread_none }
    all_work n bs [] (w ∷ ws) fresh have is = absurd (cc)
    all_work n [] (d ∷ ds) ws fresh have is = absurd (let l = have.0 in omega arith)
    all_work n (b ∷ bs) (d ∷ ds) [] fresh have is = absurd (cc)
    all_work n (b ∷ bs) (d ∷ ds) (w ∷ ws) fresh have is =
        let h = heads w ws d.worked (map (λ (b : Bench). b.worked) ds) is in
        let one = one_work n b d w fresh.0 (first_worked b d bs ds have) h.0 in
        let rest = all_work (suc n) bs ds ws fresh.1 (rest_worked b d bs ds have) h.1 in
        let more : List (Entry Boxed) = all_entries (map (λ (b : Bench). b.carrier) ds) in
        record {
          jobs = one.jobs ∷ rest.jobs;
          done = ((one.work).done, rest.done);
          numbers_are = numbers_append one.jobs (joined rest.jobs) ∙ ap (λ (l : List ℕ). l ++ numbers (joined rest.jobs)) (sym one.gained) ∙ ap (λ (l : List ℕ). d.seat.numbers ++ l) rest.numbers_are;
          weighs = λ h.
              (let made = ap (weigh h) (made_append net one.jobs (joined rest.jobs)) ∙ weigh_append h (parcels_made net one.jobs) (parcels_made net (joined rest.jobs)) in
              let back = weigh_append (back_weight (boxed_weight h)) d.carrier.entries more in
              let put = weigh_append (entry_parcel h) d.carrier.entries more in
              let mine = posted_weighs h (parcels_made net one.jobs) d.carrier.entries w.spill.items (one.work).posted in
              let others = rest.weighs h in
              omega arith);
          theirs = All-append (λ (e : Entry Boxed). e.parcel.value.to.index ≡ e.host) d.carrier.entries more (turned d.carrier.entries ((one.work).posted).theirs) rest.theirs;
          spread =
              subst (λ (made : List Parcel). AreSpread made (d.carrier.entries ++ more) (w.spill.items ++ flat_map (λ (w : Worked). w.spill.items) ws)) (sym (made_append net one.jobs (joined rest.jobs)))
              (spread_more (parcels_made net one.jobs) (parcels_made net (joined rest.jobs)) d.carrier.entries more w.spill.items (flat_map (λ (w : Worked). w.spill.items) ws)
              (spread_one (parcels_made net one.jobs) d.carrier.entries w.spill.items (one.work).posted) rest.spread);
        }
