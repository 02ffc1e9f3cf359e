use Rattle.std.proofs.Common.{Bool, if◌then◌else◌, sym, ap, subst}
use Rattle.sock_tcp.specs.connection.Tcb.{Turn}
use Rattle.sock_tcp.specs.connection.Segment.{sends_ack}
use Rattle.sock_tcp.specs.connection.Arrival.{answers}
use Rattle.sock_tcp.specs.connection.StandsFor.{Stands}
use Rattle.sock_tcp.proofs.connection.conn.Conn.answer.Goals as goal

pub returns-in_ok-send_ack : goal.returns-in_ok-send_ack
unfolding answers
returns-in_ok-send_ack c = λ t h.
    subst (λ (x : Turn). Stands c.args.self.now c.send_ack.new.draft x) (sym (ap (λ (b : Bool). if b then sends_ack t else t) c.if-wanted.true))
    (c.in_ok-send_ack.ensures t h)

pub returns-else-wanted : goal.returns-else-wanted
unfolding answers
returns-else-wanted c = λ t h.
    subst (λ (x : Turn). Stands c.args.self.now c.args.draft.now x) (sym (ap (λ (b : Bool). if b then sends_ack t else t) c.if-wanted.false)) h
