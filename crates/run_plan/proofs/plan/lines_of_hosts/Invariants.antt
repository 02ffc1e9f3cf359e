use Rattle.std.proofs.Common.{◌≡◌, take, map}
use Rattle.run_plan.specs.Plan.{line_of_host}
use Rattle.run_plan.proofs.plan.lines_of_hosts.Given as goal

abbrev pub invariant-loop-row : goal.invariant-loop-row
invariant-loop-row l = l.lines.items ≡ map line_of_host (take l.row-index l.rows)
