use Rattle.steal_workers.specs.SeatViews.{IsSameSeat}
use Rattle.part_tests.proofs.seats.take_all.Given as goal

abbrev pub invariant-loop : goal.invariant-loop
invariant-loop l = IsSameSeat l.initial.seat l.seat
