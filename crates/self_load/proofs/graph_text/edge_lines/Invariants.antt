use Rattle.std.proofs.Common.{◌≡◌}
use Rattle.std.specs.List.{flat_map, range_with_len}
use Rattle.self_load.specs.GraphText.{edge_line}
use Rattle.self_load.proofs.graph_text.edge_lines.Given as goal

abbrev pub invariant-loop-host : goal.invariant-loop-host
invariant-loop-host l = l.lines ≡ flat_map (edge_line l.hosts) (range_with_len 0 l.host)
