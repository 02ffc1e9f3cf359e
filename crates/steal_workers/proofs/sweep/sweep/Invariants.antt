use Rattle.steal_workers.specs.inside.Shares.{Moves, TookNone}
use Rattle.steal_workers.proofs.sweep.sweep.Given as goal

abbrev pub invariant-loop-deque : goal.invariant-loop-deque
invariant-loop-deque g l = Moves l.initial.shares l.shares × TookNone l.initial.shares l.shares
