use Rattle.std.proofs.Common.{set, arith}
use Rattle.udp_table.proofs.Places.{changes_set}
use Rattle.udp_table.proofs.table.UdpTable.set.Goals as goal

pub invariant_of-self : goal.invariant_of-self
invariant_of-self c =
    c.follow.ensures c.self.inside.places.items (set c.self.inside.places.items c.args.place c.args.is)
    (changes_set c.self.inside.places.items c.args.place c.index-was.result.now c.args.is (omega (arith, c.self.inside.places.ok.0)) c.index-was.ensures)
    c.self.invariant
