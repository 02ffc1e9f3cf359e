use Rattle.std.proofs.Common.{◌≡◌, ◌+◌, ◌≤◌, ◌-◌, length, drop}
use Rattle.std.specs.Prelude.{nat_lt}
use Rattle.std.specs.List.{prefix_len}
use Rattle.gml_graph.proofs.block.rows_inside.Given as goal

abbrev pub invariant-loop-count : goal.invariant-loop-count
invariant-loop-count l = (l.count ≤ length l.rows) × (l.count + prefix_len (λ r. nat_lt l.depth r.depth) (drop l.count l.rows) ≡ prefix_len (λ r. nat_lt l.depth r.depth) l.rows)

abbrev pub decreases-loop-count : goal.decreases-loop-count
decreases-loop-count l = length l.rows - l.count
