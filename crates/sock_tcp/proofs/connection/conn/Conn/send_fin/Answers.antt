use Rattle.std.proofs.Common.{◌≡◌, List, ℕ, ◌+◌, true, refl, ap, ◌∙◌}
use Rattle.sock_tcp.specs.connection.Output.{fin_is_next}
use Rattle.sock_tcp.specs.connection.Segment.{with_ack}
use Rattle.sock_tcp.proofs.Connections.SendText.{stands_sends_fin}
use Rattle.sock_tcp.proofs.connection.conn.Conn.send_fin.Goals as goal

pub returns-in_ok-send-clause-does : goal.returns-in_ok-send-clause-does
returns-in_ok-send-clause-does c = λ t h.
    let self = c.args.self.now in
    let due : fin_is_next t.tcb ≡ true = cc (c.fin_is_next.ensures t.tcb h.conn) in
    let packet = c.with_ack.ensures t.tcb h.conn ∙ ap (λ (text : List ℕ). with_ack t.tcb 17 (t.tcb.una + self.sent) text) c.new-empty.ensures in
    stands_sends_fin self _ _ _ c.with_ack.result t h
    (record { control = refl; una = refl; sent = ap (λ n. n + 1) c.len.ensures.len; highest = refl; duplicates = refl; recover = refl; rcv = refl; counts = refl; send = refl; receive = refl })
    c.requires due packet c.in_ok-send.ensures.segments c.in_ok-send.ensures.started
