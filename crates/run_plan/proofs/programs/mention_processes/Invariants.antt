use Rattle.std.proofs.Common.{◌≡◌, drop, map}
use Rattle.std.specs.Prelude.{fold}
use Rattle.run_plan.specs.Programs.{mentioned}
use Rattle.run_plan.proofs.programs.mention_processes.Given as goal

abbrev pub invariant-loop-process : goal.invariant-loop-process
invariant-loop-process l = fold mentioned l.known.items (map (λ p. p.path) (drop l.process-index l.processes)) ≡ fold mentioned l.initial.known.items (map (λ p. p.path) l.processes)
