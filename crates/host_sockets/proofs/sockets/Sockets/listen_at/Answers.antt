use Rattle.std.proofs.Common.{ℤ, subst, ap, arith}
use Rattle.std.proofs.lemmas.Int.{to_z-of_z}
use mir.Syntax.{w32}
use Rattle.host_sockets.specs.TcpSocket.{TcpSocket}
use Rattle.host_sockets.specs.StandsFor.{SocketStands}
use Rattle.host_sockets.specs.Binding.{listening}
use Rattle.host_sockets.proofs.Endings.{act_ends}
use Rattle.host_sockets.proofs.SocketActs.{stand_changed, stand_unchanged}
use Rattle.host_sockets.proofs.Turning.{within_turned, turned_set}
use Rattle.host_sockets.proofs.sockets.Sockets.listen_at.Goals as goal

pub returns-then-k-len : goal.returns-then-k-len
returns-then-k-len c = λ t h. stand_unchanged c.args.self.now t c.args.k (listening c.args.at c.args.backlog) h (omega (arith, c.args.self.now.tcp.ok.0))

pub returns : goal.returns
returns c = λ t h.
    let listens = subst (λ (backlog : ℤ). (s : TcpSocket) → SocketStands c.index_mut-sock.result.now s → SocketStands c.listen.new.self (listening c.args.at backlog s)) (to_z-of_z w32 c.args.backlog c.ranges.backlog) c.listen.ensures in
    stand_changed c.begin_act-before.new.self _ t c.args.k c.index_mut-sock.result.now c.listen.new.self c.begin_act-before.result (listening c.args.at c.args.backlog) (c.begin_act-before.ensures.stands t h) (within_turned c.args.self.now c.begin_act-before.new.self c.args.k c.begin_act-before.ensures.tcp (omega (arith, c.args.self.now.tcp.ok.0))) c.index_mut-sock.ensures.value listens (λ s e. c.begin_act-before.ensures.seen t s h e)
    (act_ends c.begin_act-before.new.self _ c.args.k c.begin_act-before.result c.listen.new.self c.begin_act-before.new.self.gone.items (within_turned c.args.self.now c.begin_act-before.new.self c.args.k c.begin_act-before.ensures.tcp (omega (arith, c.args.self.now.tcp.ok.0))) c.end_act.ensures.own c.end_act.ensures.udp (ap (λ v. v.items) c.end_act.ensures.tcp) c.end_act.ensures.udp_risen (ap (λ v. v.items) c.end_act.ensures.gone) c.end_act.ensures.tcp_risen)

pub invariant_of-self : goal.invariant_of-self
invariant_of-self c = record { indexed = turned_set c.begin_act-before.new.self c.args.k _ c.begin_act-before.ensures.acts }
