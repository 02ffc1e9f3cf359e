-- the segments that a record sends (RFC 9293, section 3.1)
use Rattle.std.specs.Prelude.{ℕ, ◌+◌, List, [], ◌∷◌, ◌++◌}
use Rattle.sim_base.specs.declared.packet.Packet.{Packet}
use Rattle.sim_base.specs.Packet.{syn_flag, rst_flag, ack_flag}
use Rattle.sock_tcp.specs.segment.Number.{wire}
use Rattle.sock_tcp.specs.segment.Control.{segment, without_ack}
use Rattle.sock_tcp.specs.connection.Tcb.{Tcb, Turn, own_window}

-- a segment with ACK: it tells what is expected next, and the window
unfoldable pub with_ack : Tcb → ℕ → ℕ → List ℕ → Packet
with_ack r flags offset text =
    segment r.control flags (wire r.iss offset) (wire r.irs r.rcv) (own_window r) text

abbrev pub sends : Packet → Turn → Turn
sends p t = record t { sent = t.sent ++ p ∷ [] }

-- an ACK without text has the number of what is sent next
unfoldable pub sends_ack : Turn → Turn
sends_ack t = sends (with_ack t.tcb ack_flag t.tcb.nxt []) t

-- a SYN and ACK that goes out again: the SYN isn't acknowledged yet
unfoldable pub sends_syn_ack : Turn → Turn
sends_syn_ack t = sends (with_ack t.tcb (syn_flag + ack_flag) t.tcb.una []) t

-- the RST of a record that gives up has the number of what would be sent next
unfoldable pub sends_reset : Turn → Turn
sends_reset t = sends (without_ack t.tcb.control rst_flag (wire t.tcb.iss t.tcb.nxt)) t

-- the RST that answers an acknowledgement of what was never sent has its number
unfoldable pub sends_refusal : ℕ → Turn → Turn
sends_refusal ack t = sends (without_ack t.tcb.control rst_flag ack) t
