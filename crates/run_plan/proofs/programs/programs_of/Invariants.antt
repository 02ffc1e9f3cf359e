use Rattle.std.proofs.Common.{◌≡◌, drop, []}
use Rattle.std.specs.Prelude.{fold, flat_map}
use Rattle.run_plan.specs.Programs.{mentioned, paths_of}
use Rattle.run_plan.proofs.programs.programs_of.Given as goal

abbrev pub invariant-loop-host : goal.invariant-loop-host
invariant-loop-host l = fold mentioned l.known.items (flat_map paths_of (drop l.host-index l.hosts)) ≡ fold mentioned [] (flat_map paths_of l.hosts)
