use Rattle.std.proofs.Common.{◌≡◌, take, map}
use Rattle.run_plan.proofs.host_row.given_of.Given as goal

abbrev pub invariant-loop-host : goal.invariant-loop-host
invariant-loop-host l = l.given.items ≡ map (λ h. h.ip_addr) (take l.host-index l.hosts)
