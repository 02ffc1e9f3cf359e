use Rattle.steal_workers.specs.SeatViews.{AreSameSeats}
use Rattle.part_tests.proofs.seats.find_none.Given as goal

abbrev pub invariant-loop-place : goal.invariant-loop-place
invariant-loop-place l = AreSameSeats l.initial.seats l.seats
