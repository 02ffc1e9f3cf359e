use Rattle.std.proofs.Common.{◌≡◌, drop}
use Rattle.shd_config.specs.Keys.{key_in, table}
use Rattle.shd_config.proofs.key.find.Given as goal

-- what is left gives the whole
abbrev pub invariant-loop-known : goal.invariant-loop-known
invariant-loop-known l = key_in (table (drop l.known-index l.names)) l.name ≡ key_in (table l.names) l.name
