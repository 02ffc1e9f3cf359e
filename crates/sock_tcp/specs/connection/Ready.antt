-- what the socket of a record is ready for, by the bits of poll(2)
use Rattle.std.specs.Prelude.{ℕ, Bool, ◌&&◌, ◌||◌, bit_or, if◌then◌else◌, is_some, nat_lt}
use Rattle.sim_base.specs.Poll.{pollin, pollout, pollerr, pollhup}
use Rattle.sock_tcp.specs.declared.segment.control.Control.{Control}
use Rattle.sock_tcp.specs.segment.State.{is_over, is_opening}
use Rattle.sock_tcp.specs.connection.Tcb.{Tcb, unread}
use Rattle.sock_tcp.specs.connection.Process.{room}

-- reading has ended by the peer's FIN or by the process, and writing by the process
abbrev pub reading_is_over : Control → Bool
reading_is_over c = c.fin_taken || c.reading_ended

abbrev pub writing_is_over : Control → Bool
writing_is_over c = c.fin_wanted

abbrev pub has_error : Control → Bool
has_error c = is_some c.error

-- bytes wait, none come any more, or an error waits
abbrev pub can_read : Tcb → Bool
can_read r = nat_lt 0 (unread r) || (reading_is_over r.control || has_error r.control)

-- there is room for bytes, the process has ended its writing, or an error waits; that the record is over is by itself none
-- of these
abbrev pub can_write : Tcb → Bool
can_write r = nat_lt 0 (room r) || (writing_is_over r.control || has_error r.control)

-- both directions have ended, or the record is over
abbrev pub is_hung_up : Control → Bool
is_hung_up c = (reading_is_over c && writing_is_over c) || is_over c.state

abbrev pub bit_if : Bool → ℕ → ℕ
bit_if holds bit = if holds then bit else 0

abbrev pub connected_readiness : Tcb → ℕ
connected_readiness r =
    bit_or (bit_or (bit_if (can_read r) pollin) (bit_if (can_write r) pollout))
    (bit_or (bit_if (has_error r.control) pollerr) (bit_if (is_hung_up r.control) pollhup))

-- a socket that is connecting is ready for nothing
unfoldable pub readiness : Tcb → ℕ
readiness r = if is_opening r.control.state then 0 else connected_readiness r
