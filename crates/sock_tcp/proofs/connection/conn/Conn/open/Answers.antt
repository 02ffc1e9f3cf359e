use Rattle.std.proofs.Common.{◌≡◌, [], ◌∷◌, ◌++◌, refl, ap, ◌∙◌}
use Rattle.sock_tcp.specs.segment.Number.{wire}
use Rattle.sock_tcp.specs.segment.Control.{without_ack}
use Rattle.sock_tcp.specs.connection.Process.{fresh_tcb, opened}
use Rattle.sock_tcp.proofs.connection.conn.Conn.open.Goals as goal

nothing_expected : 0 ≡ wire 0 0
unfolding wire
nothing_expected = refl

pub returns : goal.returns
unfolding opened fresh_tcb
returns c =
    let stands = c.in_ok-conn.ensures 0 0 nothing_expected in
    let packet = c.without_ack.ensures ∙ ap (λ k. without_ack k 2 c.args.iss) stands.control in
    let sent = c.in_ok-send.ensures.segments ∙ (ap (λ xs. xs ++ c.without_ack.result ∷ []) c.started-draft.ensures.segments ∙ ap (λ q. q ∷ []) packet) in
    c.finish-effects.ensures (opened c.args.local c.args.peer c.args.iss)
    (record { conn = stands; segments = sent; started = c.in_ok-send.ensures.started ∙ c.started-draft.ensures.started })
