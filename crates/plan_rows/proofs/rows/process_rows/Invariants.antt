use Rattle.std.proofs.Common.{◌≡◌, ◌++◌, drop}
use Rattle.plan_rows.specs.Rows.{processes_of}
use Rattle.plan_rows.proofs.rows.process_rows.Given as goal

-- what is left gives the whole
abbrev pub invariant-loop-place : goal.invariant-loop-place
invariant-loop-place l = l.rows.items ++ processes_of (drop l.place l.processes) (drop l.place l.images) ≡ processes_of l.processes l.images
