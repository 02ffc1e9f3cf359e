use Rattle.std.proofs.Common.{◌≡◌, ◌≤◌, ◌==◌, take}
use Rattle.std.specs.Prelude.{count_by}
use Rattle.sim_base.specs.Ascii.{line_feed}
use Rattle.yaml_tree.proofs.reading.line_feeds.Given as goal

abbrev pub invariant-loop-b : goal.invariant-loop-b
invariant-loop-b l = record {
  counted : l.count ≡ count_by (λ b. b == line_feed) (take l.b-index l.text);
  within : l.count ≤ l.b-index;
}
