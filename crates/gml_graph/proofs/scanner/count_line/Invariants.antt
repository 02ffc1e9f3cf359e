use Rattle.std.proofs.Common.{◌≡◌, ◌+◌, ◌≤◌, ◌-◌, length, drop}
use Rattle.std.specs.List.{position_or_len}
use Rattle.gml_graph.specs.Tokens.{is_line_feed}
use Rattle.gml_graph.proofs.scanner.count_line.Given as goal

abbrev pub invariant-loop-count : goal.invariant-loop-count
invariant-loop-count l = (l.count ≤ length l.bytes) × (l.count + position_or_len is_line_feed (drop l.count l.bytes) ≡ position_or_len is_line_feed l.bytes)

abbrev pub decreases-loop-count : goal.decreases-loop-count
decreases-loop-count l = length l.bytes - l.count
