use Rattle.std.proofs.Common.{◌≡◌, ◌<◌, ◌++◌, All, length}
use Rattle.std.specs.Vec.Iter.{into_iter_items}
use Rattle.round_lookahead.specs.inside.Backs.{with_done, lines_done, ids_of}
use Rattle.round_lookahead.proofs.world.backs.put_all_done.Given as goal

-- what is left completes the whole
abbrev pub invariant-loop-done : goal.invariant-loop-done
invariant-loop-done l = record {
  slots : with_done (into_iter_items l.done-iterator) l.slots.items ≡ with_done l.fn.all.items l.initial.slots.items;
  lines : l.lines.items ++ lines_done (into_iter_items l.done-iterator) ≡ l.initial.lines.items ++ lines_done l.fn.all.items;
  took : l.took.items ++ ids_of (into_iter_items l.done-iterator) ≡ l.initial.took.items ++ ids_of l.fn.all.items;
  below : All (λ d. d.id.index < length l.slots.items) (into_iter_items l.done-iterator);
}
