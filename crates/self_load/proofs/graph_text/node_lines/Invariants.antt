use Rattle.std.proofs.Common.{◌≡◌}
use Rattle.std.specs.List.{flat_map, range_with_len}
use Rattle.self_load.specs.GraphText.{node_line}
use Rattle.self_load.proofs.graph_text.node_lines.Given as goal

abbrev pub invariant-loop-node : goal.invariant-loop-node
invariant-loop-node l = l.lines ≡ flat_map node_line (range_with_len 0 l.node)
