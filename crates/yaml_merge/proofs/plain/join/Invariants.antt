use Rattle.std.proofs.Common.{◌≡◌, ◌++◌}
use Rattle.std.specs.List.{flat_map}
use Rattle.std.specs.Vec.Iter.{into_iter_items}
use Rattle.yaml_merge.specs.Sources.{pairs_of}
use Rattle.yaml_merge.proofs.plain.join.Given as goal

-- the pairs so far and those of what is left are all
abbrev pub invariant-loop-item : goal.invariant-loop-item
invariant-loop-item l = l.all.items ++ flat_map pairs_of (into_iter_items l.item-iterator) ≡ flat_map pairs_of l.fn.items.items
