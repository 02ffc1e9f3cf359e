use Rattle.std.proofs.Common.{◌≡◌, drop}
use Rattle.shd_config.specs.Steps.{through}
use Rattle.shd_config.specs.General.{general_row}
use Rattle.shd_config.proofs.general.read_pairs.Given as goal

-- what is left gives the whole
abbrev pub invariant-loop-pair : goal.invariant-loop-pair
invariant-loop-pair l = through (general_row l.overrides) l.draft (drop l.pair-index l.pairs) ≡ through (general_row l.overrides) l.initial.draft l.pairs
