-- what a record sends of its own accord (RFC 9293, section 3.10.7.4 and section 3.8.6)
use Rattle.std.specs.Prelude.{ℕ, ◌+◌, ◌-◌, ◌==◌, zero, suc, List, [], ◌∷◌, ◌++◌, length, take, drop, min, max, Bool, ◌&&◌, if◌then◌else◌}
use Rattle.sim_base.specs.declared.packet.Packet.{Packet}
use Rattle.sim_base.specs.Packet.{fin_flag, ack_flag, max_segment}
use Rattle.sock_tcp.specs.declared.segment.control.Control.{Control}
use Rattle.sock_tcp.specs.segment.Number.{wire}
use Rattle.sock_tcp.specs.segment.State.{is_sending}
use Rattle.sock_tcp.specs.connection.Tcb.{Tcb, Turn, data_end, own_window, changed}
use Rattle.sock_tcp.specs.segment.Control.{segment, send_window}
use Rattle.sock_tcp.specs.connection.Segment.{with_ack, sends}

-- text cut into pieces of a size, the last of which may be shorter; count is at least their number
abbrev pub cut : ℕ → ℕ → List ℕ → List (List ℕ)
cut size zero text = []
cut size (suc count) [] = []
cut size (suc count) (byte ∷ text) =
    take size (byte ∷ text) ∷ cut size count (drop size (byte ∷ text))

unfoldable pub pieces : List ℕ → List (List ℕ)
pieces text = cut max_segment (length text) text

-- a segment for each piece, one after another from an offset on
abbrev pub text_segments : Control → ℕ → ℕ → ℕ → ℕ → List (List ℕ) → List Packet
text_segments c start offset ack window [] = []
text_segments c start offset ack window (piece ∷ rest) =
    segment c ack_flag (wire start offset) ack window piece
    ∷ text_segments c start (offset + length piece) ack window rest

-- how far text may be sent: to the end of what was written, and to that of the windows
abbrev pub send_limit : Tcb → ℕ
send_limit r = min (data_end r) (r.una + send_window r.control)

-- the text that is sent now, from what is next to the limit
abbrev pub to_send : Tcb → List ℕ
to_send r = take (send_limit r - r.nxt) (drop (r.nxt - 1) r.written)

unfoldable pub sends_text : Turn → Turn
sends_text t = let r = t.tcb in record t {
  tcb = record r { nxt = max r.nxt (send_limit r) };
  sent = t.sent ++ text_segments r.control r.iss r.nxt (wire r.irs r.rcv) (own_window r) (pieces (to_send r));
}

-- the FIN goes in a segment of its own, whatever the windows are, once all text was sent
abbrev pub fin_is_next : Tcb → Bool
fin_is_next r = (r.nxt == data_end r) && r.control.fin_wanted

abbrev pub moves_next : ℕ → Tcb → Tcb
moves_next offset r = record r { nxt = offset }

unfoldable pub sends_fin : Turn → Turn
sends_fin t =
    if fin_is_next t.tcb
    then changed (moves_next (t.tcb.nxt + 1)) (sends (with_ack t.tcb (fin_flag + ack_flag) t.tcb.nxt []) t)
    else t

-- the highest offset follows
abbrev pub highest_followed : Tcb → Tcb
highest_followed r = record r { highest = max r.highest r.nxt }

unfoldable pub follows : Turn → Turn
follows t = changed highest_followed t

-- nothing is sent before ESTABLISHED, nor once the FIN is acknowledged
unfoldable pub output : Turn → Turn
output t = if is_sending t.tcb.control.state then follows (sends_fin (sends_text t)) else t
