use Rattle.std.proofs.Common.{◌≡◌, ◌+◌, drop}
use Rattle.std.specs.List.{prefix_len}
use Rattle.yaml_tokens.specs.Scalars.{is_space}
use Rattle.yaml_tokens.proofs.scan.spaces.Given as goal

abbrev pub invariant-loop-i : goal.invariant-loop-i
invariant-loop-i l = l.i + prefix_len is_space (drop l.i l.bytes) ≡ prefix_len is_space l.bytes
