use Rattle.std.proofs.Common.{◌≡◌, drop}
use Rattle.shd_config.specs.Steps.{through}
use Rattle.shd_config.specs.Network.{file_row}
use Rattle.shd_config.proofs.graph.read_file_pairs.Given as goal

-- what is left gives the whole
abbrev pub invariant-loop-pair : goal.invariant-loop-pair
invariant-loop-pair l = through file_row l.path (drop l.pair-index l.pairs) ≡ through file_row l.initial.path l.pairs
