use Rattle.std.proofs.Common.{◌≡◌}
use Rattle.std.specs.Vec.Iter.{into_iter_items}
use Rattle.host_link.specs.Sending.{leave_all}
use Rattle.host_link.proofs.link.Link.leave_all.Given as goal

-- what is left gives the whole
abbrev pub invariant-loop-packet : goal.invariant-loop-packet
invariant-loop-packet l = leave_all l.net (into_iter_items l.packet-iterator) (l.self, l.outlet) ≡ leave_all l.net l.fn.packets.items (l.fn.self, l.fn.outlet)
