use Rattle.std.proofs.Common.{take}
use Rattle.run_answers.specs.Captured.{AreLinesOf}
use Rattle.run_answers.proofs.captured.capture_text.Given as goal

abbrev pub invariant-loop-taken : goal.invariant-loop-taken
invariant-loop-taken l = AreLinesOf (take l.taken-index l.capture.records) l.lines
