use Rattle.std.proofs.Common.{◌≡◌, ◌+◌, ◌<◌, ◌≤◌, ℕ, length}
use Rattle.steal_workers.specs.SeatViews.{IsSameSeat}
use Rattle.host_state.specs.HostRecord.{HostRecord}
use Rattle.round_lookahead.specs.Tasks.{AreTasks}
use Rattle.round_lookahead.specs.Works.{IsWork}
use Rattle.round_lookahead.proofs.workers.working.work.Given as goal

abbrev pub invariant-loop : goal.invariant-loop
invariant-loop g l = record {
  same : IsSameSeat l.initial.seat l.seat;
  boards : l.carrier.boards ≡ l.initial.carrier.boards;
  puts : length l.carrier.entries ≡ l.shift.puts;
  few : l.shift.lost < 69632;
  count : length l.seat.numbers + l.shift.lost ≡ length l.initial.seat.numbers + l.counter;
  below : 0 < l.counter → length l.seat.numbers ≤ length l.seat.deal.tasks;
  worked : (rec : ℕ → HostRecord) → AreTasks l.net l.initial.seat.deal.tasks rec
      → IsWork l.net l.fn.end.nanos l.fn.worker l.initial.seat.deal.tasks rec l.initial.seat.numbers l.seat.numbers l.carrier.entries l.shift.worked;
}
