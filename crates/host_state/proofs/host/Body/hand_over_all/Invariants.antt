use Rattle.std.specs.Vec.Iter.{into_iter_items}
use Rattle.host_state.specs.Arriving.{are_handed_over}
use Rattle.host_state.specs.HostRecord.{HostRecord}
use Rattle.host_state.specs.StandsFor.{BodyStands, LeadsTo}
use Rattle.host_state.proofs.host.Body.hand_over_all.Given as goal

-- what is left gives the whole
abbrev pub invariant-loop-packet : goal.invariant-loop-packet
invariant-loop-packet l =
    (h : HostRecord) → BodyStands l.fn.self h → LeadsTo (are_handed_over l.net (into_iter_items l.packet-iterator)) l.self (are_handed_over l.net l.fn.packets.items h)
