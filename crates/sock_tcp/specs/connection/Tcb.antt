-- the record of a connection: the transmission control block (RFC 9293, section 3.3.1) with the
-- whole lists of what was written and received, and offsets without bound
use Rattle.std.specs.Prelude.{ℕ, ◌+◌, ◌-◌, List, length, Bool}
use Rattle.sim_base.specs.declared.packet.Packet.{Packet}
use Rattle.sock_tcp.specs.declared.segment.control.Control.{Control}

pub record Tcb : Type 0 where
  -- state, window, flags and timer, as the code keeps them
  pub control : Control
  -- the number of the own SYN (ISS), and that of the peer's (IRS)
  pub iss : ℕ
  pub irs : ℕ
  -- offsets from iss, where the SYN has 0, byte i of the written list i + 1, and the FIN follows
  -- the last byte: the first one not acknowledged (SND.UNA), the next to send (SND.NXT), and one
  -- past the highest sent
  pub una : ℕ
  pub nxt : ℕ
  pub highest : ℕ
  -- how many duplicate acknowledgements came since more was acknowledged (RFC 5681, section 3.2)
  pub duplicates : ℕ
  -- what was the highest offset when a loss was last noticed (RFC 6582, section 3.2)
  pub recover : ℕ
  -- the offset from irs that is expected next (RCV.NXT)
  pub rcv : ℕ
  -- all bytes that were taken from the process, and all that were taken for it
  pub written : List ℕ
  pub received : List ℕ
  -- how many of those received the process has read, and how many more were thrown away since it
  -- ended its reading
  pub read : ℕ
  pub discarded : ℕ

-- a call on its way: the record, the segments sent so far, and whether the timer was started
pub record Turn : Type 0 where
  pub tcb : Tcb
  pub sent : List Packet
  pub started : Bool

-- how many bytes either buffer holds
abbrev pub buffer_size : ℕ
buffer_size = 65535

-- the offset behind the last byte written, which is that of the FIN
abbrev pub data_end : Tcb → ℕ
data_end r = 1 + length r.written

-- how many bytes wait for the process, and how many more there is room for: the own window
abbrev pub unread : Tcb → ℕ
unread r = length r.received - r.read

abbrev pub own_window : Tcb → ℕ
own_window r = buffer_size - unread r

-- the control changed
abbrev pub with_control : (Control → Control) → Tcb → Tcb
with_control f r = record r { control = f r.control }

-- the record changed
abbrev pub changed : (Tcb → Tcb) → Turn → Turn
changed f t = record t { tcb = f t.tcb }
