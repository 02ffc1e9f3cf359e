-- the records that a listener lets go
use Rattle.std.specs.Prelude.{not, ◌&&◌, List, [], ◌∷◌, slice_get, Option, Some, None, if◌then◌else◌}
use Rattle.sim_base.specs.declared.address.Addr.{Addr}
use Rattle.sock_tcp.specs.segment.State.{is_over}
use Rattle.sock_tcp.specs.connection.Begin.{begin}
use Rattle.sock_tcp.specs.connection.Pairs.{place_in}
use Rattle.sock_tcp.specs.connection.Tcb.{Tcb, Turn}
use Rattle.sock_tcp.specs.listener.Listen.{Listen}

-- a record that is over before it was ESTABLISHED
abbrev pub dropped_after : Tcb → List Tcb
dropped_after r = if is_over r.control.state && not r.control.was_established then r ∷ [] else []

-- the record of two ends that an act ends before it was ESTABLISHED: the listener keeps it no more
abbrev pub dropped_by : (Turn → Turn) → Option Tcb → List Tcb
dropped_by act None = []
dropped_by act (Some r) = dropped_after (act (begin r)).tcb

unfoldable pub dropped : (Turn → Turn) → Addr → Addr → Listen → List Tcb
dropped act own other l = dropped_by act (slice_get l.records (place_in own other l.records))
