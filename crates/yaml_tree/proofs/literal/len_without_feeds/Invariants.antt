use Rattle.std.proofs.Common.{◌≡◌, ◌+◌, ◌≤◌, take, length}
use Rattle.std.specs.List.{suffix_len}
use Rattle.yaml_tokens.specs.Literals.{is_feed}
use Rattle.yaml_tree.proofs.literal.len_without_feeds.Given as goal

abbrev pub invariant-loop-n : goal.invariant-loop-n
invariant-loop-n l = (l.n + suffix_len is_feed l.bytes ≡ length l.bytes + suffix_len is_feed (take l.n l.bytes)) × (l.n ≤ length l.bytes)

abbrev pub decreases-loop-n : goal.decreases-loop-n
decreases-loop-n l = l.n
