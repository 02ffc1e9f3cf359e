use Rattle.std.proofs.Common.{◌≡◌, drop}
use Rattle.shd_config.specs.Network.{kind_in}
use Rattle.shd_config.proofs.graph.kind_in.Given as goal

-- what is left gives the whole
abbrev pub invariant-loop-pair : goal.invariant-loop-pair
invariant-loop-pair l = kind_in (drop l.pair-index l.pairs) ≡ kind_in l.pairs
