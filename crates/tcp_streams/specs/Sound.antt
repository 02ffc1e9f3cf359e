-- what every act keeps of a record, and what it leaves of what the record received
use Rattle.std.specs.Prelude.{◌≡◌, ℕ, ◌+◌, ◌-◌, ◌≤◌, List, [], ◌++◌, length, Bool, true}
use Rattle.sock_tcp.specs.connection.Tcb.{Tcb, buffer_size}
use Rattle.tcp_laws.specs.Order.{IsInOrder}
use Rattle.tcp_laws.specs.Received.{IsCounted}

-- its numbers are in order, it counts what it received, and what isn't acknowledged fits the send buffer
pub record IsSound (r : Tcb) : Type 0 where
  pub order : IsInOrder r
  pub counted : IsCounted r
  pub buffered : length r.written ≤ r.una - 1 + buffer_size

-- a record only grows: what was received stays where it was, nothing joins it once reading has ended, and
-- neither the FIN nor that a read found the end is taken back
pub record Receives (r : Tcb) (bytes : List ℕ) (given thrown : ℕ) (ended taken saw : Bool) : Type 0 where
  pub more : List ℕ
  pub received : bytes ≡ r.received ++ more
  pub read : r.read ≤ given
  pub discarded : r.discarded ≤ thrown
  pub shut : r.control.reading_ended ≡ true → (ended ≡ true) × (more ≡ [])
  pub taken_stays : r.control.fin_taken ≡ true → taken ≡ true
  pub seen_stays : r.control.saw_end ≡ true → saw ≡ true

abbrev pub ReceivesOn : Tcb → Tcb → Type 0
ReceivesOn before r =
    Receives before r.received r.read r.discarded r.control.reading_ended r.control.fin_taken r.control.saw_end
