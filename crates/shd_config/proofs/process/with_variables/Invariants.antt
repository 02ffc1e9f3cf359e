use Rattle.std.proofs.Common.{◌≡◌, ◌≤◌, ◌+◌, drop, length, min}
use Rattle.std.specs.List.{sum_by}
use Rattle.shd_config.proofs.process.with_variables.Given as goal

-- what is left gives the whole
abbrev pub invariant-loop-variable : goal.invariant-loop-variable
invariant-loop-variable l = (min (l.size + sum_by (λ v. length v.name + length v.value + 2) (drop l.variable-index l.variables)) 65537 ≡ min (l.initial.size + sum_by (λ v. length v.name + length v.value + 2) l.variables) 65537) × (l.size ≤ 65537)
