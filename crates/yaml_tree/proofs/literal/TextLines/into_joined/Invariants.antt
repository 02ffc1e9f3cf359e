use Rattle.std.proofs.Common.{◌≡◌, ◌++◌}
use Rattle.std.specs.Vec.Iter.{into_iter_items}
use Rattle.yaml_tokens.specs.Literals.{joined}
use Rattle.yaml_tree.proofs.literal.TextLines.into_joined.Given as goal

-- what is written and what is left give the whole
abbrev pub invariant-loop-line : goal.invariant-loop-line
invariant-loop-line l = l.text.items ++ joined l.column (into_iter_items l.line-iterator) ≡ joined l.fn.column l.fn.self
