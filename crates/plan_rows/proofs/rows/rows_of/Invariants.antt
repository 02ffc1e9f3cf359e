use Rattle.std.proofs.Common.{◌≡◌, ◌++◌, drop}
use Rattle.plan_rows.specs.Rows.{rows_from}
use Rattle.plan_rows.proofs.rows.rows_of.Given as goal

-- what is left gives the whole
abbrev pub invariant-loop-number : goal.invariant-loop-number
invariant-loop-number l = l.rows.items ++ rows_from l.settings l.number (drop l.number l.hosts) ≡ rows_from l.settings 0 l.hosts
