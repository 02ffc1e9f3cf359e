use Rattle.std.proofs.Common.{◌≡◌, drop}
use Rattle.shd_config.specs.Steps.{through}
use Rattle.shd_config.specs.Config.{root_row}
use Rattle.shd_config.proofs.reading.read_pairs.Given as goal

-- what is left gives the whole
abbrev pub invariant-loop-pair : goal.invariant-loop-pair
invariant-loop-pair l = through (root_row l.overrides) l.draft (drop l.pair-index l.pairs) ≡ through (root_row l.overrides) l.initial.draft l.pairs
