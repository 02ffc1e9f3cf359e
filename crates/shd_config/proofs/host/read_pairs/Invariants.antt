use Rattle.std.proofs.Common.{◌≡◌, drop}
use Rattle.shd_config.specs.Steps.{through}
use Rattle.shd_config.specs.Host.{host_row}
use Rattle.shd_config.proofs.host.read_pairs.Given as goal

-- what is left gives the whole
abbrev pub invariant-loop-pair : goal.invariant-loop-pair
invariant-loop-pair l = through host_row l.draft (drop l.pair-index l.pairs) ≡ through host_row l.initial.draft l.pairs
