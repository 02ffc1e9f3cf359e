use Rattle.std.proofs.Common.{◌≡◌, drop}
use Rattle.yaml_tree.specs.inside.Outline.{fault_from, flow_fault}
use Rattle.yaml_tree.proofs.shape.bare_fault.Given as goal

abbrev pub invariant-loop-i : goal.invariant-loop-i
invariant-loop-i l = fault_from (drop l.i l.pieces) l.shape ≡ flow_fault l.pieces
