use Rattle.std.proofs.Common.{refl}
use Rattle.sock_tcp.proofs.Connections.SendText.{stands_sends_text, stands_sends_no_text}
use Rattle.sock_tcp.proofs.connection.conn.Conn.send_text.Goals as goal

pub returns-in_ok-send_pieces-clause-does : goal.returns-in_ok-send_pieces-clause-does
returns-in_ok-send_pieces-clause-does c = λ t h.
    stands_sends_text c.args.self.now _ _ _ c.send_limit-limit.result t h
    (record { control = refl; una = refl; sent = refl; highest = refl; duplicates = refl; recover = refl; rcv = refl; counts = refl; send = refl; receive = refl })
    c.requires c.if-self-limit.true (c.send_limit-limit.ensures.limit t.tcb h.conn) c.in_ok-send_pieces.ensures.segments c.in_ok-send_pieces.ensures.started

pub returns-else-self-limit-clause-does : goal.returns-else-self-limit-clause-does
returns-else-self-limit-clause-does c = λ t h.
    stands_sends_no_text _ _ c.send_limit-limit.result t h c.if-self-limit.false (c.send_limit-limit.ensures.limit t.tcb h.conn)
