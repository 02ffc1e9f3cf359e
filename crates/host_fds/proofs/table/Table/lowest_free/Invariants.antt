use Rattle.std.proofs.Common.{ℕ, ◌<◌, None, IsSome, get_or}
use Rattle.host_fds.proofs.table.Table.lowest_free.Given as goal

abbrev pub invariant-loop-fd : goal.invariant-loop-fd
invariant-loop-fd l = (lower : ℕ) → lower < l.fd → IsSome (get_or l.slot-items lower None)
