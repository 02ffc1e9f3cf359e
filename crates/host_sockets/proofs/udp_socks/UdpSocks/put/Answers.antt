use Rattle.std.proofs.Common.{Some}
use Rattle.host_sockets.proofs.UdpTold.{told_then, row_is}
use Rattle.host_sockets.proofs.udp_socks.UdpSocks.put.Goals as goal

pub invariant_of-self : goal.invariant_of-self
invariant_of-self c = record {
  told = told_then c.args.self.now.slots.items c.args.self.now.table c.set.new.self c.args.place (Some c.args.sock) (Some c.ends_of-ends.result) c.args.self.now.told
      (row_is c.ends_of-ends.result c.args.sock c.ends_of-ends.ensures.local c.ends_of-ends.ensures.peer)
      c.set.ensures;
}
