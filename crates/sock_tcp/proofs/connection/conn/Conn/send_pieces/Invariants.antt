use Rattle.std.proofs.Common.{◌≡◌, ◌-◌, ◌++◌, take, drop}
use Rattle.sock_tcp.specs.connection.Output.{pieces, text_segments}
use Rattle.sock_tcp.proofs.connection.conn.Conn.send_pieces.Given as goal

-- what was sent and what is still to be sent are the whole
abbrev pub invariant-loop-at : goal.invariant-loop-at
invariant-loop-at l =
    (l.draft.segments.items ++ text_segments l.self.control l.self.una l.at l.self.rcv l.window (pieces (take (l.to - l.at) (drop l.at l.self.send.items)))
    ≡ l.initial.draft.segments.items ++ text_segments l.self.control l.self.una l.fn.from l.self.rcv l.window (pieces (take (l.to - l.fn.from) (drop l.fn.from l.self.send.items))))
    × (l.draft.started ≡ l.initial.draft.started)

abbrev pub decreases-loop-at : goal.decreases-loop-at
decreases-loop-at l = l.to - l.at
