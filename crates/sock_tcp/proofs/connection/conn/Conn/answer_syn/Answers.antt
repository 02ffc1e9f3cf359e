use Rattle.std.proofs.Common.{ℕ, List, [], ◌∷◌, ◌++◌, ap, ◌∙◌}
use Rattle.sock_tcp.specs.declared.segment.state.TcpState.TheVariants.{SynReceived}
use Rattle.sock_tcp.specs.segment.Control.{fresh_control}
use Rattle.sock_tcp.specs.connection.Tcb.{Tcb}
use Rattle.sock_tcp.specs.connection.Segment.{with_ack}
use Rattle.sock_tcp.specs.connection.Process.{fresh_tcb, answered}
use Rattle.sock_tcp.proofs.connection.conn.Conn.answer_syn.Goals as goal

pub returns : goal.returns
unfolding answered fresh_tcb
returns c =
    let r : Tcb = fresh_tcb (fresh_control c.args.local c.args.peer SynReceived) c.args.iss c.args.seq 1 in
    let stands = c.in_ok-conn.ensures c.args.seq 1 c.number_at-rcv.ensures in
    let packet = c.with_ack.ensures r stands ∙ ap (λ (text : List ℕ). with_ack r 18 0 text) c.new.ensures in
    let sent = c.in_ok-send.ensures.segments ∙ (ap (λ xs. xs ++ c.with_ack.result ∷ []) c.started-draft.ensures.segments ∙ ap (λ q. q ∷ []) packet) in
    c.finish-effects.ensures (answered c.args.local c.args.peer c.args.iss c.args.seq)
    (record { conn = stands; segments = sent; started = c.in_ok-send.ensures.started ∙ c.started-draft.ensures.started })
