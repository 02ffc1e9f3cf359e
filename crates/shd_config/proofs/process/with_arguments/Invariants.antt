use Rattle.std.proofs.Common.{◌≡◌, ◌≤◌, ◌+◌, drop, length, min}
use Rattle.std.specs.List.{sum_by}
use Rattle.shd_config.proofs.process.with_arguments.Given as goal

-- what is left gives the whole
abbrev pub invariant-loop-arg : goal.invariant-loop-arg
invariant-loop-arg l = (min (l.size + sum_by (λ a. length a + 1) (drop l.arg-index l.args)) 65537 ≡ min (l.initial.size + sum_by (λ a. length a + 1) l.args) 65537) × (l.size ≤ 65537)
