use Rattle.std.proofs.Common.{◌≡◌, ◌+◌, drop}
use Rattle.yaml_tokens.specs.Pieces.{cell_len}
use Rattle.yaml_tokens.proofs.cells.cell_len.Given as goal

abbrev pub invariant-loop-i : goal.invariant-loop-i
invariant-loop-i l = l.i + cell_len (drop l.i l.bytes) ≡ cell_len l.bytes
