use Rattle.host_sockets.specs.Accepting.{accepted}
use Rattle.host_sockets.proofs.sockets.Sockets.place_conn.Goals as goal

pub returns-clause-stands : goal.returns-clause-stands
returns-clause-stands c = λ t r h stands. c.in_ok-socket.ensures.stands t (accepted r) h (c.accepted-sock.ensures r stands)
