use Rattle.std.proofs.Common.{◌≡◌, ◌+◌, drop}
use Rattle.yaml_tokens.specs.Scalars.{plain_len}
use Rattle.yaml_tokens.proofs.scan.plain_len.Given as goal

abbrev pub invariant-loop-i : goal.invariant-loop-i
invariant-loop-i l = l.i + plain_len (drop l.i l.bytes) ≡ plain_len l.bytes
