use Rattle.std.proofs.Common.{◌≡◌, ◌++◌, string_bytes, take, codes, flat_map}
use Rattle.config_lines.specs.Shown.{shown_variable}
use Rattle.config_lines.proofs.show.process.more_variables.Given as goal

-- what has been written so far
abbrev pub invariant-loop-variable : goal.invariant-loop-variable
invariant-loop-variable l = string_bytes l.out ≡ string_bytes l.fn.before ++ flat_map (λ y. codes ", " ++ shown_variable y) (take l.variable-index l.variables)
