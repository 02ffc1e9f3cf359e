use Rattle.std.proofs.Common.{◌≡◌, [], ◌==◌}
use Rattle.std.specs.Vec.Iter.{into_iter_items}
use Rattle.std.specs.Cmp.Lexicographic.{pointwise}
use Rattle.indexmap.specs.IndexMap.{insert_all}
use Rattle.yaml_tree.proofs.growing.from_rows.Given as goal

-- the rows that are left give all entries
abbrev pub invariant-loop-key : goal.invariant-loop-key
invariant-loop-key l = insert_all (pointwise ◌==◌) l.entries (into_iter_items l.key-iterator) ≡ insert_all (pointwise ◌==◌) [] l.fn.rows.items
