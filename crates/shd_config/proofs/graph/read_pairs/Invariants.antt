use Rattle.std.proofs.Common.{◌≡◌, drop}
use Rattle.shd_config.specs.Steps.{through}
use Rattle.shd_config.specs.Network.{graph_row}
use Rattle.shd_config.proofs.graph.read_pairs.Given as goal

-- what is left gives the whole
abbrev pub invariant-loop-pair : goal.invariant-loop-pair
invariant-loop-pair l = through (graph_row l.kind) l.draft (drop l.pair-index l.pairs) ≡ through (graph_row l.kind) l.initial.draft l.pairs
