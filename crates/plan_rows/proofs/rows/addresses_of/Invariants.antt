use Rattle.std.proofs.Common.{◌≡◌, map, take}
use Rattle.run_plan.specs.declared.host_row.HostRow.{HostRow}
use Rattle.plan_rows.proofs.rows.addresses_of.Given as goal

abbrev pub invariant-loop-host : goal.invariant-loop-host
invariant-loop-host l = l.addresses.items ≡ map (λ (h : HostRow). h.address) (take l.host-index l.hosts)
