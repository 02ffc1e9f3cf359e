use Rattle.std.proofs.Common.{sym, append-nil, arith}
use Rattle.sock_tcp.proofs.Connections.CarriedSteps.{carried_more, carried_all}
use Rattle.sock_tcp.proofs.connection.carried.add_carried.Goals as goal

pub loop-conn-init : goal.loop-conn-init
loop-conn-init c = λ records h. sym (append-nil c.args.all.now.items)

pub loop-conn-preserved : goal.loop-conn-preserved
loop-conn-preserved c = λ records h.
    carried_more c.args.conns.now records c.loop-conn.conn-index c.conn-item.result c.carried.result c.args.all.now.items c.loop-conn.all.items c.push.new.self.items h (omega arith) c.conn-item.is (c.loop-conn.invariant records h) c.carried.ensures c.in_ok-push.ensures.items

pub returns : goal.returns
returns c = λ records h.
    carried_all c.args.conns.now records c.loop-conn.conn-index c.args.all.now.items c.loop-conn.all.items h (omega arith) (c.loop-conn.invariant records h)
