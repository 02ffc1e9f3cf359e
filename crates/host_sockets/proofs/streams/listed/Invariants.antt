use Rattle.std.proofs.Common.{◌≡◌, ◌++◌}
use Rattle.host_sockets.specs.inside.Told.{all_told}
use Rattle.host_sockets.proofs.streams.listed.Given as goal

-- what was told, and then what the others tell, is all
abbrev pub invariant-loop-ends : goal.invariant-loop-ends
invariant-loop-ends l = l.streams.items ++ all_told l.ends-iterator ≡ all_told l.pairs.entries
