use Rattle.std.proofs.Common.{◌≡◌, drop}
use Rattle.shd_config.specs.Steps.{mapping_line}
use Rattle.shd_config.specs.Config.{kept}
use Rattle.shd_config.proofs.reading.root_line.Given as goal

-- what is left gives the whole
abbrev pub invariant-loop-pair : goal.invariant-loop-pair
invariant-loop-pair l = mapping_line l.line (kept (drop l.pair-index l.pairs)) ≡ mapping_line l.line (kept l.pairs)
