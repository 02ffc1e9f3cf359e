use Rattle.std.proofs.Common.{◌≡◌, ◌++◌, drop}
use Rattle.std.specs.Vec.Iter.{into_iter_items}
use Rattle.run_plan.specs.HostRows.{rows_of}
use Rattle.run_plan.proofs.host_row.rows_of.Given as goal

abbrev pub invariant-loop-host : goal.invariant-loop-host
invariant-loop-host l = l.rows.items ++ rows_of l.programs (into_iter_items l.host-iterator) (drop l.at l.rates) (drop l.at l.addresses) ≡ rows_of l.programs (l.fn.hosts).items l.rates l.addresses
