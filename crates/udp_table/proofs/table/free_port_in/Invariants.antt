use Rattle.std.proofs.Common.{◌≡◌, ℕ, ◌+◌, ◌<◌, true}
use Rattle.sim_base.specs.Addresses.{has_port}
use Rattle.udp_table.specs.Table.{bound_ends}
use Rattle.udp_table.proofs.table.free_port_in.Given as goal

-- each port that was looked at is had
abbrev pub invariant-loop-number : goal.invariant-loop-number
invariant-loop-number l = (m : ℕ) → m < l.number → has_port (bound_ends l.places) (10000 + m) ≡ true
