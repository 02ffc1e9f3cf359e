use Rattle.std.proofs.Common.{◌≡◌, take}
use Rattle.run_files.specs.Files.{written_to}
use Rattle.run_files.proofs.piece.written_to.Given as goal

abbrev pub invariant-loop-output : goal.invariant-loop-output
invariant-loop-output l = l.bytes ≡ written_to l.process l.descriptor (take l.output-index l.outputs)
