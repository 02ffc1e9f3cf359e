-- Workers at their benches.
use Rattle.std.specs.Prelude.{◌≡◌, ℕ, ◌<◌, List, [], map, length, slice_index_or, All, Some}
use Rattle.atomic_table.specs.Seated.{TableId}
use Rattle.list_weights.specs.Places.{EachAt}
use Rattle.host_inbox.specs.CarrierViews.{BoardsView, CarrierView}
use Rattle.steal_workers.specs.SeatViews.{SeatView, IsSameSeat, HasMark}
use Rattle.round_parts.specs.Arrivals.{Boxed}
use Rattle.round_lookahead.specs.declared.workers.host_task.HostTask.{HostTask}
use Rattle.host_link.specs.Net.{Net}
use Rattle.host_state.specs.HostRecord.{HostRecord}
use Rattle.round_lookahead.specs.declared.workers.bench.Bench.{Bench}
use Rattle.round_lookahead.specs.declared.workers.worked.Worked.{Worked}
use Rattle.round_lookahead.specs.Tasks.{AreTasks, AreTasksOf}
use Rattle.round_lookahead.specs.Works.{IsWork}

-- a carrier of the boards that has made no put
abbrev pub IsUnusedOf : TableId → CarrierView Boxed → Type 0
IsUnusedOf id c = (c.boards ≡ id) × (c.entries ≡ [])

-- a bench before its worker starts: the seat is of a deal of the net's hosts, and the carrier is the boards' and has made no put
pub record IsReady (net : Net) (boards : BoardsView) (b : Bench) : Type 0 where
  pub tasks : AreTasksOf net b.seat.deal.tasks
  pub carrier : IsUnusedOf boards.id b.carrier

-- a bench after its worker is done; where it found memory, there is its work
pub record HasWorked (net : Net) (end : ℕ) (old new : Bench) : Type 0 where
  pub worker : new.worker ≡ old.worker
  pub seat : IsSameSeat old.seat new.seat
  pub boards : new.carrier.boards ≡ old.carrier.boards
  pub marked : (w : Worked) → new.worked ≡ Some w → HasMark new.seat new.seat.place
  pub work : (w : Worked) → new.worked ≡ Some w → (rec : ℕ → HostRecord) → AreTasks net old.seat.deal.tasks rec
      → IsWork net end old.worker old.seat.deal.tasks rec old.seat.numbers new.seat.numbers new.carrier.entries w

-- bench by bench
abbrev pub HaveWorked : Net → ℕ → List Bench → List Bench → Type 0
HaveWorked net end old new = (length new ≡ length old) × ((k : ℕ) (e : Bench) → k < length old → HasWorked net end (slice_index_or old k e) (slice_index_or new k e))

-- benches of these seats, in order, and of the carriers; worker k is at bench k
pub record AreBenches (seats : List (SeatView HostTask)) (carriers : List (CarrierView Boxed)) (benches : List Bench) : Type 0 where
  pub seats_are : map (λ (b : Bench). b.seat) benches ≡ seats
  pub carriers_are : (id : TableId) → All (IsUnusedOf id) carriers → All (λ (b : Bench). IsUnusedOf id b.carrier) benches
  pub workers_are : EachAt (λ k (b : Bench). b.worker ≡ k) benches

-- what was at the benches; all workers have worked
pub record AreParts (benches : List Bench) (seats : List (SeatView HostTask)) (carriers : List (CarrierView Boxed)) (works : List Worked) : Type 0 where
  pub seats_are : seats ≡ map (λ (b : Bench). b.seat) benches
  pub carriers_are : carriers ≡ map (λ (b : Bench). b.carrier) benches
  pub works_are : map Some works ≡ map (λ (b : Bench). b.worked) benches
