use Rattle.std.proofs.Common.{◌≡◌}
use Rattle.std.specs.Prelude.{replicate}
use Rattle.run_files.proofs.Capturing.{nothing}
use Rattle.run_files.proofs.capture.none_captured.Given as goal

abbrev pub invariant-loop : goal.invariant-loop
invariant-loop l = l.captured.items ≡ replicate l.index nothing
