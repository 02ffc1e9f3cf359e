use Rattle.std.proofs.Common.{◌≡◌}
use Rattle.std.specs.Prelude.{IfSome}
use Rattle.run_plan.proofs.ImageLemmas.{AreBehind}
use Rattle.run_plan.proofs.programs.read_images.Given as goal

abbrev pub invariant-loop-path : goal.invariant-loop-path
invariant-loop-path g l = record {
  told : IfSome (g.S.Source.held l.initial.source) (λ held. AreBehind held l.paths l.path-index l.all.items);
  same : g.S.Source.held l.source ≡ g.S.Source.held l.initial.source;
  count : g.S.Source.faults l.source ≡ g.S.Source.faults l.initial.source;
}
