use Rattle.std.proofs.Common.{◌≡◌}
use Rattle.std.specs.Vec.Iter.{into_iter_items}
use Rattle.host_link.specs.Sending.{drop_all}
use Rattle.host_link.proofs.link.Link.drop_all.Given as goal

-- what is left gives the whole
abbrev pub invariant-loop-packet : goal.invariant-loop-packet
invariant-loop-packet l = drop_all (into_iter_items l.packet-iterator) l.self ≡ drop_all l.fn.packets.items l.fn.self
