-- what a record keeps beside its numbers and lists
use Rattle.std.specs.Prelude.{ℕ, ◌^◌, ◌==◌, nat_lt, min, List, [], Bool, true, false, not, ◌&&◌, ◌||◌, if◌then◌else◌, None}
use Rattle.sim_base.specs.declared.address.Addr.{Addr}
use Rattle.sim_base.specs.declared.packet.Packet.{Packet}
use Rattle.sim_base.specs.declared.packet.Load.TheVariants.{Tcp}
use Rattle.sock_tcp.specs.declared.segment.control.Control.{Control}
use Rattle.sock_tcp.specs.declared.segment.state.TcpState.{TcpState}
use Rattle.sock_tcp.specs.segment.Congestion.{fresh_congestion, max_window}
use Rattle.sock_tcp.specs.segment.State.{is_over, is_time_wait, after_writing}

-- of a record that has just sent its SYN: its timer runs
unfoldable pub fresh_control : Addr → Addr → TcpState → Control
fresh_control local peer state = record {
  local = local;
  peer = peer;
  state = state;
  window = 0;
  congestion = fresh_congestion;
  fin_wanted = false;
  fin_taken = false;
  reading_ended = false;
  closed = false;
  was_established = false;
  error = None;
  had_error = false;
  saw_end = false;
  retries = 0;
  timer = true;
  owes_ack = false;
}

abbrev pub segment : Control → ℕ → ℕ → ℕ → ℕ → List ℕ → Packet
segment c flags seq ack window text =
    record { from = c.local; to = c.peer; load = Tcp flags seq ack window text }

-- a segment without ACK: a SYN of SYN-SENT or a RST
unfoldable pub without_ack : Control → ℕ → ℕ → Packet
without_ack c flags seq = segment c flags seq 0 max_window []

-- the greatest length of the timer, and that of TIME-WAIT, in seconds
abbrev pub longest_timer : ℕ
longest_timer = 60

-- one second, doubled at each expiry, and at most the greatest length
abbrev pub seconds_after : ℕ → ℕ
seconds_after retries = if nat_lt retries 6 then 2 ^ retries else longest_timer

-- TIME-WAIT lasts as long
abbrev pub timer_seconds : Control → ℕ
timer_seconds c = if is_time_wait c.state then longest_timer else seconds_after c.retries

-- how many bytes may be in flight: as many as the peer's window and the congestion window allow
-- (RFC 5681, section 3.1)
abbrev pub send_window : Control → ℕ
send_window c = min c.window c.congestion.cwnd

-- bytes are taken from the process until it ends its writing or the record is over
-- (section 3.10.2)
abbrev pub takes_bytes : Control → Bool
takes_bytes c = not (c.fin_wanted || is_over c.state)

-- it finds the end of what the peer sent where the FIN was taken and nothing waits
abbrev pub finds_end : ℕ → ℕ → Control → Bool
finds_end count waiting c =
    (nat_lt 0 count && (waiting == 0))
    && (c.fin_taken && not (c.reading_ended || c.had_error))

abbrev pub control_read : Bool → Bool → Control → Control
control_read owes found c =
    record c { owes_ack = c.owes_ack || owes; saw_end = c.saw_end || found }

-- the end of writing (section 3.10.4, CLOSE): a FIN follows what was written
unfoldable pub writing_ended : Control → Control
writing_ended c = record c { fin_wanted = true; state = after_writing c.state }
