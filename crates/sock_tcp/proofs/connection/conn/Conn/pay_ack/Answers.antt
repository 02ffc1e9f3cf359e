use Rattle.std.proofs.Common.{refl}
use Rattle.sock_tcp.proofs.Connections.ProcessCalls.{stands_pays}
use Rattle.sock_tcp.proofs.connection.conn.Conn.pay_ack.Goals as goal

pub returns-in_ok-send_ack : goal.returns-in_ok-send_ack
returns-in_ok-send_ack c = λ t h.
    stands_pays c.args.self.now _ c.args.draft.now _ t h c.if-self.true (c.in_ok-send_ack.ensures t h)
    (record { una = refl; sent = refl; highest = refl; duplicates = refl; recover = refl; rcv = refl; counts = refl; send = refl; receive = refl })
    refl
