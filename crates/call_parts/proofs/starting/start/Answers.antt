-- The descriptors 0, 1 and 2 are given out one after another, of none.
use Rattle.std.proofs.Common.{ap, lit<}
use Rattle.std.specs.FinMap as map
use Rattle.file_calls.specs.declared.task.Task.{Task}
use Rattle.file_calls.proofs.Free.{still_free, all_free}
use Rattle.call_parts.proofs.starting.start.Goals as goal

pub open-requires-clause-is_free : goal.open-requires-clause-is_free
open-requires-clause-is_free c = rw c.in_ok-new.ensures (all_free 0)

pub open-requires-2-clause-is_free : goal.open-requires-2-clause-is_free
open-requires-2-clause-is_free c =
    rw (ap (λ (t : Task). t.table) c.in_ok-open.ensures.0, c.in_ok-new.ensures) (still_free map.empty 0 1 _ (lit< tt) (all_free 1))

pub open-requires-3-clause-is_free : goal.open-requires-3-clause-is_free
open-requires-3-clause-is_free c =
    rw (ap (λ (t : Task). t.table) c.in_ok-open-2.ensures.0, ap (λ (t : Task). t.table) c.in_ok-open.ensures.0, c.in_ok-new.ensures)
    (still_free _ 1 2 _ (lit< tt) (still_free map.empty 0 2 _ (lit< tt) (all_free 2)))
