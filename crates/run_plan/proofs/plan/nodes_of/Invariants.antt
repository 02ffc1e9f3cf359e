use Rattle.std.proofs.Common.{◌≡◌, take}
use Rattle.run_plan.specs.Plan.{nodes_of}
use Rattle.run_plan.proofs.plan.nodes_of.Given as goal

abbrev pub invariant-loop-row : goal.invariant-loop-row
invariant-loop-row l = l.nodes.items ≡ nodes_of (take l.row-index l.rows)
