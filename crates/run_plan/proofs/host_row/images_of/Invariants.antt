use Rattle.std.proofs.Common.{◌≡◌, take, map}
use Rattle.run_plan.specs.Programs.{place_of}
use Rattle.run_plan.proofs.host_row.images_of.Given as goal

abbrev pub invariant-loop-process : goal.invariant-loop-process
invariant-loop-process l = l.places.items ≡ map (λ p. place_of l.programs p.path) (take l.process-index l.process-items)
