use Rattle.std.proofs.Common.{◌≡◌, drop}
use Rattle.shd_config.specs.Steps.{through}
use Rattle.shd_config.specs.Process.{process_row}
use Rattle.shd_config.proofs.process.read_pairs.Given as goal

-- what is left gives the whole
abbrev pub invariant-loop-pair : goal.invariant-loop-pair
invariant-loop-pair l = through (process_row l.start) l.draft (drop l.pair-index l.pairs) ≡ through (process_row l.start) l.initial.draft l.pairs
