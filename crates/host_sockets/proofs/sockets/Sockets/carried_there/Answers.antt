use Rattle.std.proofs.Common.{List, ◌+◌, ◌++◌, drop, map, sym, ap, ◌∙◌}
use Rattle.std.specs.List.{flat_map}
use Rattle.sock_tcp.specs.declared.connection.carried.Carried.{Carried}
use Rattle.sock_tcp.specs.connection.Carried.{carried_of}
use Rattle.host_sockets.specs.Records.{records_at}
use Rattle.host_sockets.specs.TcpSocket.{TcpSocket}
use Rattle.host_sockets.proofs.Gathering.{gathered_next, gathered_all, map-flat_map}
use Rattle.host_sockets.proofs.AsksAt.{socket_among, none_among}
use Rattle.host_sockets.proofs.sockets.Sockets.carried_there.Goals as goal

carried_at : TcpSocket → List Carried
carried_at s = map carried_of (records_at s)

pub loop-sock-preserved : goal.loop-sock-preserved
unfolding carried_at
loop-sock-preserved c = λ t h.
    let there = socket_among c.args.self.now t c.deref-sock-items.result.now c.loop-sock.sock-index c.sock-item.result h c.deref-sock-items.ensures.value c.loop-sock-test.true c.sock-item.is in
    ap (λ (ys : List Carried). ys ++ flat_map carried_at (drop (c.loop-sock.sock-index + 1) t.tcp)) (c.in_ok-add_carried.ensures there.0 there.1.1)
    ∙ gathered_next carried_at t.tcp c.loop-sock.sock-index there.0 c.loop-sock.all.items there.1.0 (c.loop-sock.invariant t h)

pub returns : goal.returns
unfolding carried_at
returns c = λ t h.
    gathered_all carried_at t.tcp c.loop-sock.sock-index c.loop-sock.all.items (none_among c.args.self.now t c.deref-sock-items.result.now c.loop-sock.sock-index h c.deref-sock-items.ensures.value c.loop-sock-test.false) (c.loop-sock.invariant t h)
    ∙ sym (map-flat_map carried_of records_at t.tcp)
