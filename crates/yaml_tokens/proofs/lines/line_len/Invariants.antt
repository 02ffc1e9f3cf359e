use Rattle.std.proofs.Common.{◌≡◌, ◌+◌, drop}
use Rattle.std.specs.List.{prefix_len}
use Rattle.yaml_tokens.specs.Lines.{is_inside}
use Rattle.yaml_tokens.proofs.lines.line_len.Given as goal

abbrev pub invariant-loop-i : goal.invariant-loop-i
invariant-loop-i l = l.i + prefix_len is_inside (drop l.i l.bytes) ≡ prefix_len is_inside l.bytes
