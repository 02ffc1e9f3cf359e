use Rattle.std.proofs.Common.{◌≡◌, drop}
use Rattle.shd_config.specs.Steps.{through}
use Rattle.shd_config.specs.Process.{state_row}
use Rattle.shd_config.proofs.state.read_pairs.Given as goal

-- what is left gives the whole
abbrev pub invariant-loop-pair : goal.invariant-loop-pair
invariant-loop-pair l = through state_row l.draft (drop l.pair-index l.pairs) ≡ through state_row l.initial.draft l.pairs
