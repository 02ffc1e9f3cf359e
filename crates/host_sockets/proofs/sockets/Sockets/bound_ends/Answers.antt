use Rattle.std.proofs.Common.{List, ◌+◌, ◌++◌, drop, ap, ◌∙◌}
use Rattle.std.specs.List.{flat_map}
use Rattle.sim_base.specs.declared.address.Addr.{Addr}
use Rattle.host_sockets.specs.TcpSocket.{TcpSocket, bound_end}
use Rattle.host_sockets.proofs.Gathering.{gathered_next, gathered_all}
use Rattle.host_sockets.proofs.AsksAt.{socket_among, none_among}
use Rattle.host_sockets.proofs.sockets.Sockets.bound_ends.Goals as goal

pub loop-sock-preserved : goal.loop-sock-preserved
loop-sock-preserved c = λ t h.
    let there = socket_among c.args.self.now t c.deref-sock-items.result.now c.loop-sock.sock-index c.sock-item.result h c.deref-sock-items.ensures.value c.loop-sock-test.true c.sock-item.is in
    ap (λ (ys : List Addr). ys ++ flat_map (λ (s : TcpSocket). bound_end s.bound) (drop (c.loop-sock.sock-index + 1) t.tcp)) (c.in_ok-add_bound.ensures there.0 there.1.1)
    ∙ gathered_next (λ (s : TcpSocket). bound_end s.bound) t.tcp c.loop-sock.sock-index there.0 c.loop-sock.ends.items there.1.0 (c.loop-sock.invariant t h)

pub returns : goal.returns
returns c = λ t h. gathered_all (λ (s : TcpSocket). bound_end s.bound) t.tcp c.loop-sock.sock-index c.loop-sock.ends.items (none_among c.args.self.now t c.deref-sock-items.result.now c.loop-sock.sock-index h c.deref-sock-items.ensures.value c.loop-sock-test.false) (c.loop-sock.invariant t h)
