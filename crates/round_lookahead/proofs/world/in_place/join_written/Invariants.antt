use Rattle.std.proofs.Common.{◌≡◌, ◌++◌, flat_map}
use Rattle.std.specs.Vec.Iter.{into_iter_items}
use Rattle.run_files.specs.Written.{with_silent, written_in}
use Rattle.round_lookahead.proofs.world.in_place.join_written.Given as goal

abbrev pub invariant-loop-host : goal.invariant-loop-host
invariant-loop-host l = written_in l.all ++ flat_map with_silent (into_iter_items l.host-iterator) ≡ written_in l.initial.all ++ flat_map with_silent l.fn.more.hosts.items
