use Rattle.std.proofs.Common.{◌≡◌}
use Rattle.file_calls.specs.Descriptors.{free_from}
use Rattle.file_calls.proofs.descriptors.free_from.Given as goal

abbrev pub invariant-loop-fd : goal.invariant-loop-fd
invariant-loop-fd l = free_from l.table l.fn.from ≡ free_from l.table l.fd
