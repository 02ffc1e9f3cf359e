use Rattle.std.proofs.Common.{ℕ, ◌-◌, refl, ap, ◌∙◌, arith}
use Rattle.circular_buffer.specs.Buffer.{Buffer, keep_last}
use Rattle.sock_tcp.specs.declared.segment.congestion.Congestion.{Congestion}
use Rattle.sock_tcp.proofs.Connections.Advance.{stands_advanced}
use Rattle.sock_tcp.proofs.connection.conn.Conn.move_una.Goals as goal

pub returns : goal.returns
returns c = λ r h.
    let rest = c.saturating_sub-rest.ensures ∙ ap (λ n. n - c.args.by) c.len.ensures.len in
    let kept = ap (λ (b : Buffer ℕ). b.items) c.truncate_front.ensures ∙ ap (λ n. keep_last n c.args.self.now.send.items) rest in
    let control = ap (λ (x : Congestion). record c.args.self.now.control { state = c.state_advanced-self.result; window = c.args.window; congestion = x }) c.acknowledged-self.ensures in
    stands_advanced c.args.self.now _ r c.state_advanced-self.result c.args.by c.args.window h c.requires.synchronized c.requires.within (c.state_advanced-self.ensures r h)
    (record { control = control; una = c.number_at-self.ensures; sent = c.saturating_sub-self.ensures; highest = omega arith; duplicates = c.still_counted-self.ensures; recover = c.saturating_sub-self-2.ensures; rcv = refl; counts = refl; send = kept; receive = refl })
