use Rattle.std.proofs.Common.{◌≡◌, drop, []}
use Rattle.shd_config.specs.Steps.{through}
use Rattle.shd_config.specs.Host.{hosts_row}
use Rattle.shd_config.proofs.host.read_list.Given as goal

-- what is left gives the whole
abbrev pub invariant-loop-pair : goal.invariant-loop-pair
invariant-loop-pair l = through hosts_row l.hosts.items (drop l.pair-index l.pairs) ≡ through hosts_row [] l.pairs
