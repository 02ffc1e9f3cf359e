use Rattle.std.proofs.Common.{◌∙◌}
use Rattle.sock_tcp.proofs.Connections.Pieces.{pieces_more, pieces_all}
use Rattle.sock_tcp.proofs.connection.conn.Conn.send_pieces.Goals as goal

pub loop-at-preserved : goal.loop-at-preserved
loop-at-preserved c =
    let more = pieces_more _ _ c.args.self.now.control c.args.self.now.una c.loop-at.at c.args.self.now.rcv c.own_window-window.result c.args.to c.args.self.now.send.items c.loop-at-test.true c.requires c.loop-at.invariant.0 in
    let sent = c.in_ok-send.ensures.segments in
    let text = c.in_ok-text.ensures in
    (cc (more, sent, text), c.in_ok-send.ensures.started ∙ c.loop-at.invariant.1)

pub returns-clause-segments : goal.returns-clause-segments
returns-clause-segments c =
    let all = pieces_all _ _ c.args.self.now.control c.args.self.now.una c.loop-at.at c.args.self.now.rcv c.own_window-window.result c.args.to c.args.self.now.send.items c.loop-at-test.false c.loop-at.invariant.0 in
    let window = c.own_window-window.ensures.value in
    cc (all, window)
