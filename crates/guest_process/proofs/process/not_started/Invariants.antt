use Rattle.std.proofs.Common.{◌≡◌, replicate}
use Rattle.guest_process.specs.declared.process.Process.TheVariants as process
use Rattle.guest_process.proofs.process.not_started.Given as goal

abbrev pub invariant-loop-process : goal.invariant-loop-process
invariant-loop-process l = l.processes.items ≡ replicate l._process process.NotStarted
