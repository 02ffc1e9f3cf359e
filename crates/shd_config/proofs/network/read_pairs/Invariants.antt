use Rattle.std.proofs.Common.{◌≡◌, drop}
use Rattle.shd_config.specs.Steps.{through}
use Rattle.shd_config.specs.Network.{network_row}
use Rattle.shd_config.proofs.network.read_pairs.Given as goal

-- what is left gives the whole
abbrev pub invariant-loop-pair : goal.invariant-loop-pair
invariant-loop-pair l = through network_row l.draft (drop l.pair-index l.pairs) ≡ through network_row l.initial.draft l.pairs
