use Rattle.std.proofs.Common.{◌≡◌}
use Rattle.std.specs.Vec.Iter.{into_iter_items}
use Rattle.yaml_tree.specs.inside.Builder.{take_tokens}
use Rattle.yaml_tree.proofs.reading.take_tokens.Given as goal

-- what is left gives the whole
abbrev pub invariant-loop-token : goal.invariant-loop-token
invariant-loop-token l = take_tokens (into_iter_items l.token-iterator) l.builder ≡ take_tokens l.fn.tokens l.fn.builder
