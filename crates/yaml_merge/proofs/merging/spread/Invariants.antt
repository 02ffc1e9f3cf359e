use Rattle.std.proofs.Common.{◌≡◌, ◌++◌}
use Rattle.std.specs.Vec.Iter.{into_iter_items}
use Rattle.yaml_merge.specs.inside.Held.{keys_in}
use Rattle.yaml_merge.specs.Merge.{new_pairs}
use Rattle.yaml_merge.proofs.merging.spread.Given as goal

-- the pairs so far, and the new ones of what is left, are all
abbrev pub invariant-loop-pair : goal.invariant-loop-pair
invariant-loop-pair l =
    l.all.items ++ new_pairs (keys_in l.entries ++ l.taken) (into_iter_items l.pair-iterator) ≡ l.fn.pairs.items ++ new_pairs (keys_in l.entries) l.fn.more.items
