use Rattle.std.proofs.Common.{◌≡◌, ◌++◌, map}
use Rattle.std.specs.Vec.Iter.{into_iter_items}
use Rattle.shd_config.specs.Host.{completed}
use Rattle.shd_config.proofs.host.complete_all.Given as goal

-- what is left gives the whole
abbrev pub invariant-loop-host : goal.invariant-loop-host
invariant-loop-host l = l.completed.items ++ map (completed l.all) (into_iter_items l.host-iterator) ≡ map (completed l.all) l.fn.hosts
