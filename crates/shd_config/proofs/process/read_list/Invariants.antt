use Rattle.std.proofs.Common.{◌≡◌, drop, []}
use Rattle.shd_config.specs.Steps.{through}
use Rattle.shd_config.specs.Process.{process_item}
use Rattle.shd_config.proofs.process.read_list.Given as goal

-- what is left gives the whole
abbrev pub invariant-loop-value : goal.invariant-loop-value
invariant-loop-value l = through (process_item l.key) l.processes.items (drop l.value-index l.items) ≡ through (process_item l.key) [] l.items
