use Rattle.std.specs.Vec.Iter.{into_iter_items}
use Rattle.round_lookahead.proofs.WorldOpenings.{OpenedSoFar}
use Rattle.round_lookahead.proofs.world.opening.open_hosts.Given as goal

abbrev pub invariant-loop-row : goal.invariant-loop-row
invariant-loop-row l = OpenedSoFar l.fn.rows.items (into_iter_items l.row-iterator) l.tasks.items
