-- what goes out again (RFC 9293, section 3.8.1)
use Rattle.std.specs.Prelude.{ℕ, ◌+◌, ◌-◌, nat_lt, List, length, take, drop, min, max, if◌then◌else◌}
use Rattle.sim_base.specs.Packet.{syn_flag, ack_flag, max_segment}
use Rattle.sock_tcp.specs.segment.Number.{wire}
use Rattle.sock_tcp.specs.segment.State.{is_opening, is_syn_sent, is_sending}
use Rattle.sock_tcp.specs.segment.Control.{without_ack}
use Rattle.sock_tcp.specs.connection.Tcb.{Tcb, Turn, data_end, changed}
use Rattle.sock_tcp.specs.connection.Segment.{with_ack, sends, sends_syn_ack}
use Rattle.sock_tcp.specs.connection.Output.{moves_next, sends_fin, follows}

-- what was written and isn't acknowledged yet
abbrev pub unacknowledged : Tcb → List ℕ
unacknowledged r = drop (r.una - 1) r.written

-- one segment from what isn't acknowledged on, where a window of 0 is probed by one byte
-- (section 3.8.6.1)
abbrev pub probe_length : Tcb → ℕ
probe_length r = min max_segment (max r.control.window 1)

unfoldable pub sends_again_text : Turn → Turn
sends_again_text t =
    let r = t.tcb in
    let text = take (probe_length r) (unacknowledged r) in
    changed (moves_next (r.una + length text)) (sends (with_ack r ack_flag r.una text) t)

unfoldable pub sends_again : Turn → Turn
sends_again t =
    if nat_lt t.tcb.una (data_end t.tcb)
    then sends_again_text t
    else sends_fin (changed (moves_next t.tcb.una) t)

-- the SYN, which isn't acknowledged yet, or the SYN and ACK; what is next to send stays behind it
unfoldable pub sends_syn : Turn → Turn
sends_syn t = sends (without_ack t.tcb.control syn_flag (wire t.tcb.iss t.tcb.una)) t

unfoldable pub sends_syn_again : Turn → Turn
sends_syn_again t = if is_syn_sent t.tcb.control.state then sends_syn t else sends_syn_ack t

unfoldable pub sends_one : Turn → Turn
sends_one t =
    if is_opening t.tcb.control.state then sends_syn_again t
    else if is_sending t.tcb.control.state then follows (sends_again t)
    else t
