-- the order of a record's numbers (RFC 9293, section 3.4)
use Rattle.std.specs.Prelude.{ℕ, ◌+◌, ◌≤◌, Bool}
use Rattle.sock_tcp.specs.declared.segment.state.TcpState.{TcpState}
use Rattle.sock_tcp.specs.segment.State.{phase_of}
use Rattle.sock_tcp.specs.segment.Refusal.{one_if}
use Rattle.sock_tcp.specs.connection.Tcb.{Tcb, data_end}
use Rattle.sock_tcp.specs.connection.StandsFor.{FitsPhase}

-- SND.UNA, SND.NXT, the highest number sent, and the end of what was written with the FIN where it is
-- wanted stand in this order; how far they are fits the phase of the record
pub record InOrder (state : TcpState) (wanted : Bool) (una nxt highest end : ℕ) : Type 0 where
  pub unacknowledged : una ≤ nxt
  pub next : nxt ≤ highest
  pub last : highest ≤ end + one_if wanted
  pub phase : FitsPhase (phase_of state) wanted una nxt highest end

abbrev pub IsInOrder : Tcb → Type 0
IsInOrder r =
    InOrder r.control.state r.control.fin_wanted r.una r.nxt r.highest (data_end r)
