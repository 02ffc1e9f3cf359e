use Rattle.std.proofs.Common.{◌≡◌, drop, []}
use Rattle.shd_config.specs.Steps.{through}
use Rattle.shd_config.specs.Process.{variable_row}
use Rattle.shd_config.proofs.process.read_variables.Given as goal

-- what is left gives the whole
abbrev pub invariant-loop-pair : goal.invariant-loop-pair
invariant-loop-pair l = through variable_row l.variables.items (drop l.pair-index l.pairs) ≡ through variable_row [] l.pairs
