use Rattle.std.proofs.Common.{◌≡◌, map, take}
use Rattle.plan_rows.specs.Rows.{variable_text}
use Rattle.plan_rows.proofs.rows.environment_of.Given as goal

abbrev pub invariant-loop-each : goal.invariant-loop-each
invariant-loop-each l = l.environment.items ≡ map variable_text (take l.each-index l.variables)
