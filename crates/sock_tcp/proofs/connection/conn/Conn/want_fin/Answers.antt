use Rattle.std.proofs.Common.{refl}
use Rattle.sock_tcp.proofs.Connections.ProcessCalls.{stands_writing_ended}
use Rattle.sock_tcp.proofs.connection.conn.Conn.want_fin.Goals as goal

pub returns : goal.returns
returns c = λ r h.
    stands_writing_ended c.args.self.now _ r h (record { una = refl; sent = refl; highest = refl; duplicates = refl; recover = refl; rcv = refl; counts = refl; send = refl; receive = refl }) c.requires c.after_writing-self.ensures
