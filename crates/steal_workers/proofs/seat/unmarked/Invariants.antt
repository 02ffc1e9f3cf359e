use Rattle.std.proofs.Common.{◌≡◌, ℕ, ◌<◌, get_or, map, true, false}
use Rattle.steal_workers.specs.inside.Shares.{is_marked}
use Rattle.steal_workers.proofs.seat.unmarked.Given as goal

abbrev pub invariant-loop-deque : goal.invariant-loop-deque
invariant-loop-deque g l = (d : ℕ) → d < l.deque → get_or (map is_marked l.shares) d false ≡ true
