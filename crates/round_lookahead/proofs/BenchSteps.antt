-- One bench more, and a worker's round at its bench.
use Rattle.std.proofs.Common.{◌≡◌, ℕ, zero, suc, ◌+◌, ◌<◌, List, [], ◌∷◌, ◌++◌, Some, None, Result, Ok, Err, map, length, get_or, refl, sym, ap, subst, ◌∙◌, arith}
use Rattle.std.specs.Result.{IfOk, OnOk, result_ok}
use Rattle.steal_workers.specs.SeatViews.{SeatView, IsSameSeat, HasMark}
use Rattle.host_link.specs.Net.{Net}
use Rattle.host_state.specs.HostRecord.{HostRecord}
use Rattle.world_order.proofs.Homes.{some_is}
use Rattle.round_lookahead.specs.declared.workers.bench.Bench.{Bench}
use Rattle.round_lookahead.specs.declared.workers.host_task.HostTask.{HostTask}
use Rattle.round_lookahead.specs.declared.workers.worked.Worked.{Worked}
use Rattle.round_lookahead.specs.inside.Benches.{HasWorked}
use Rattle.round_lookahead.specs.Tasks.{AreTasks}
use Rattle.round_lookahead.specs.Works.{IsWork}

pub seats_more : (bs : List Bench) (b : Bench) → map (λ (b : Bench). b.seat) (bs ++ b ∷ []) ≡ map (λ (b : Bench). b.seat) bs ++ b.seat ∷ []
seats_more [] b = refl
seats_more (x ∷ bs) b = ap (λ (l : List (SeatView HostTask)). x.seat ∷ l) (seats_more bs b)

pub workers_more : (n : ℕ) (bs : List Bench) (b : Bench) → ((k : ℕ) (e : Bench) → k < length bs → (get_or bs k e).worker ≡ n + k) → b.worker ≡ n + length bs
    → (k : ℕ) (e : Bench) → k < length (bs ++ b ∷ []) → (get_or (bs ++ b ∷ []) k e).worker ≡ n + k
workers_more n [] b are is zero e within = is
workers_more n [] b are is (suc k) e within = absurd (omega arith)
workers_more n (x ∷ bs) b are is zero e within = are 0 e (omega arith)
workers_more n (x ∷ bs) b are is (suc k) e within =
    let rest = workers_more (suc n) bs b (λ j d below. (let a = are (suc j) d (omega arith) in omega arith)) (omega arith) k e (omega arith) in
    omega arith

-- what a worker's round leaves at its bench, whether it found memory or not
pub bench_worked : {E : Type 0} (net : Net) (end : ℕ) (old new : Bench) (r : Result Worked E) → new.worker ≡ old.worker → IsSameSeat old.seat new.seat → new.carrier.boards ≡ old.carrier.boards → new.worked ≡ result_ok r
    → OnOk r (HasMark new.seat new.seat.place)
    → IfOk r (λ (w : Worked). (rec : ℕ → HostRecord) → AreTasks net old.seat.deal.tasks rec → IsWork net end old.worker old.seat.deal.tasks rec old.seat.numbers new.seat.numbers new.carrier.entries w)
    → HasWorked net end old new
bench_worked net end old new (Ok w) worker seat boards is marked work = record {
  worker = worker;
  seat = seat;
  boards = boards;
  marked = λ v at. marked;
  work = λ v at rec are.
      subst (λ (x : Worked). IsWork net end old.worker old.seat.deal.tasks rec old.seat.numbers new.seat.numbers new.carrier.entries x) (some_is w v (sym is ∙ at)) (work rec are);
}
bench_worked net end old new (Err e) worker seat boards is marked work = record {
  worker = worker;
  seat = seat;
  boards = boards;
  marked = λ v at. absurd (let none : None ≡ Some v = sym is ∙ at in cc);
  work = λ v at. absurd (let none : None ≡ Some v = sym is ∙ at in cc);
}
