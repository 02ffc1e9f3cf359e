use Rattle.std.proofs.Common.{None, refl}
use Rattle.host_sockets.proofs.UdpTold.{told_then}
use Rattle.host_sockets.proofs.udp_socks.UdpSocks.close.Goals as goal

pub invariant_of-self : goal.invariant_of-self
invariant_of-self c = record { told = told_then c.args.self.now.slots.items c.args.self.now.table c.set.new.self c.args.place None None c.args.self.now.told refl c.set.ensures }
