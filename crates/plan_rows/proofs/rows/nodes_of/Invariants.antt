use Rattle.std.proofs.Common.{◌≡◌, take}
use Rattle.run_plan.specs.Plan.{nodes_of}
use Rattle.plan_rows.proofs.rows.nodes_of.Given as goal

abbrev pub invariant-loop-host : goal.invariant-loop-host
invariant-loop-host l = l.nodes.items ≡ nodes_of (take l.host-index l.hosts)
