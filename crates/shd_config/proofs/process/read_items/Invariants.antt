use Rattle.std.proofs.Common.{◌≡◌, drop, []}
use Rattle.shd_config.specs.Steps.{through}
use Rattle.shd_config.specs.Process.{argument_row}
use Rattle.shd_config.proofs.process.read_items.Given as goal

-- what is left gives the whole
abbrev pub invariant-loop-value : goal.invariant-loop-value
invariant-loop-value l = through (argument_row l.key) l.texts (drop l.value-index l.items) ≡ through (argument_row l.key) [] l.items
