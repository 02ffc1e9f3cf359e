use Rattle.std.proofs.Common.{◌≡◌, ◌≤◌, ◌+◌, ◌++◌, length}
use Rattle.yaml_tokens.specs.Pieces.{found_at, flow_at}
use Rattle.yaml_tokens.proofs.cells.flow_at.Given as goal

abbrev pub invariant-loop-b : goal.invariant-loop-b
invariant-loop-b l = record {
  pieces : l.pieces ++ (found_at 0 l.depth l.rest).pieces ≡ (flow_at l.bytes).pieces;
  len : length l.bytes + (found_at 0 l.depth l.rest).len ≡ (flow_at l.bytes).len + length l.rest;
  within : l.depth + length l.rest ≤ length l.bytes;
}

abbrev pub decreases-loop-b : goal.decreases-loop-b
decreases-loop-b l = length l.rest
