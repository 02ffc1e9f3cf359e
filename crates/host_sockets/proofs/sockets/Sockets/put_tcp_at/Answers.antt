use Rattle.host_sockets.proofs.sockets.Sockets.put_tcp_at.Goals as goal

pub returns : goal.returns
returns c = c.push_tcp.ensures
