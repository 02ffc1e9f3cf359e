use Rattle.std.proofs.Common.{◌≡◌, ◌+◌, ◌≤◌, take, length}
use Rattle.std.specs.List.{suffix_len}
use Rattle.yaml_tokens.specs.Scalars.{is_space}
use Rattle.yaml_tokens.proofs.scan.trimmed_len.Given as goal

abbrev pub invariant-loop-n : goal.invariant-loop-n
invariant-loop-n l = (l.n + suffix_len is_space l.bytes ≡ length l.bytes + suffix_len is_space (take l.n l.bytes)) × (l.n ≤ length l.bytes)

abbrev pub decreases-loop-n : goal.decreases-loop-n
decreases-loop-n l = l.n
