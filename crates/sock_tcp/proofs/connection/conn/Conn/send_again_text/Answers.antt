use Rattle.std.proofs.Common.{◌≡◌, length, take, drop, min, max, refl, ap, ◌∙◌}
use Rattle.sock_tcp.proofs.Connections.SendText.{stands_sends_again_text}
use Rattle.sock_tcp.proofs.connection.conn.Conn.send_again_text.Goals as goal

pub returns-clause-does : goal.returns-clause-does
returns-clause-does c = λ t h.
    let self = c.args.self.now in
    let counted : c.min-count.result ≡ min (min 1460 (max self.control.window 1)) (length self.send.items) = cc c.len.ensures.len in
    let text = c.in_ok-text.ensures ∙ ap (λ xs. take c.min-count.result (drop 0 xs)) c.as_slices.ensures in
    stands_sends_again_text self _ _ _ c.min-count.result c.in_ok-text.text c.with_ack.result t h
    (record { control = refl; una = refl; sent = refl; highest = refl; duplicates = refl; recover = refl; rcv = refl; counts = refl; send = refl; receive = refl })
    c.requires counted text (c.with_ack.ensures t.tcb h.conn) c.in_ok-send.ensures.segments c.in_ok-send.ensures.started
