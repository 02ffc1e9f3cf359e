use Rattle.std.proofs.Common.{◌≡◌, length}
use Rattle.yaml_tree.specs.inside.Builder.{closed_deeper_on}
use Rattle.yaml_tree.proofs.builder.Builder.close_deeper.Given as goal

abbrev pub invariant-loop-last : goal.invariant-loop-last
invariant-loop-last l = closed_deeper_on l.depth l.self.open_rows l.self ≡ closed_deeper_on l.depth l.initial.self.open_rows l.initial.self

abbrev pub decreases-loop-last : goal.decreases-loop-last
decreases-loop-last l = length l.self.open_rows
