use Rattle.std.proofs.Common.{◌≡◌, ◌+◌, ◌/◌, ◌++◌, List, length, vec_len}
use Rattle.std.specs.Vec.Iter.{into_iter_items}
use Rattle.steal_workers.specs.inside.Decks.{AreFilling}
use Rattle.steal_workers.proofs.deck.put_tasks.Given as goal

abbrev pub invariant-loop-task : goal.invariant-loop-task
invariant-loop-task g l = record {
  filling : AreFilling (length l.initial.decks) (vec_len l.fn.tasks / length l.initial.decks + 1 + length l.initial.decks) l.number l.fn.tasks.items l.decks;
  count : l.count ≡ length l.initial.decks;
  so_far : (done : List g.row.T.Denot) × (length done ≡ l.number) × (l.fn.tasks.items ≡ done ++ into_iter_items l.task-iterator);
}
