use Rattle.std.proofs.Common.{◌≡◌, drop}
use Rattle.shd_config.specs.Process.{start_in}
use Rattle.shd_config.proofs.process.start_in.Given as goal

-- what is left gives the whole
abbrev pub invariant-loop-pair : goal.invariant-loop-pair
invariant-loop-pair l = start_in (drop l.pair-index l.pairs) ≡ start_in l.pairs
