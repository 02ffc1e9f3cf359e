-- what a record received
use Rattle.std.specs.Prelude.{◌≡◌, ℕ, ◌+◌, ◌≤◌, List, [], ◌∷◌, ◌++◌, length, Bool, true, false}
use Rattle.sock_tcp.specs.declared.segment.state.TcpState.{TcpState}
use Rattle.sock_tcp.specs.declared.segment.state.TcpState.TheVariants.{SynSent, SynReceived, Established, FinWait1, FinWait2, CloseWait, Closing, LastAck, TimeWait, Ended, Vanished}
use Rattle.sock_tcp.specs.segment.Refusal.{one_if}
use Rattle.sock_tcp.specs.connection.Tcb.{Tcb}
use Rattle.sock_tcp.specs.connection.Process.{bytes_read}
use Rattle.tcp_laws.specs.Acts.{Act, acted}
use Rattle.tcp_laws.specs.Acts.Act.{arrival, write, read, flow, shut, close, expiry, error_read}

-- in which states the peer's FIN was taken, and its SYN known
abbrev pub FitsTaken : TcpState → Bool → ℕ → Type 0
FitsTaken SynSent taken rcv = rcv ≡ 0
FitsTaken SynReceived taken rcv = (taken ≡ false) × (1 ≤ rcv)
FitsTaken Established taken rcv = (taken ≡ false) × (1 ≤ rcv)
FitsTaken FinWait1 taken rcv = (taken ≡ false) × (1 ≤ rcv)
FitsTaken FinWait2 taken rcv = (taken ≡ false) × (1 ≤ rcv)
FitsTaken CloseWait taken rcv = (taken ≡ true) × (1 ≤ rcv)
FitsTaken Closing taken rcv = (taken ≡ true) × (1 ≤ rcv)
FitsTaken LastAck taken rcv = (taken ≡ true) × (1 ≤ rcv)
FitsTaken TimeWait taken rcv = (taken ≡ true) × (1 ≤ rcv)
FitsTaken Ended taken rcv = Unit {0}
FitsTaken Vanished taken rcv = Unit {0}

-- RCV.NXT counts the peer's SYN, what was received, what was thrown away since reading ended, and the
-- FIN where it was taken; before the SYN nothing was. A read that found the end found the FIN, behind
-- everything that the peer sent
pub record Counted (state : TcpState) (taken ended saw : Bool) (rcv count given thrown : ℕ) : Type 0 where
  pub nothing : rcv ≡ 0 → (count + thrown ≡ 0) × (taken ≡ false)
  pub expected : 1 ≤ rcv → rcv ≡ 1 + (count + thrown) + one_if taken
  pub stage : FitsTaken state taken rcv
  pub within : given ≤ count
  pub kept : ended ≡ false → thrown ≡ 0
  pub seen : saw ≡ true → (taken ≡ true) × (given ≡ count) × (thrown ≡ 0)

abbrev pub IsCounted : Tcb → Type 0
IsCounted r =
    Counted r.control.state r.control.fin_taken r.control.reading_ended r.control.saw_end r.rcv (length r.received) r.read r.discarded

-- what the process was given by some acts, in their order
abbrev pub given_by : Act → Tcb → List ℕ
given_by (arrival p) r = []
given_by (write bytes) r = []
given_by (read count) r = bytes_read count r
given_by flow r = []
given_by (shut end) r = []
given_by close r = []
given_by expiry r = []
given_by error_read r = []

abbrev pub all_given : List Act → Tcb → List ℕ
all_given [] r = []
all_given (act ∷ acts) r = given_by act r ++ all_given acts (acted act r).tcb
