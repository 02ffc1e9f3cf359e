-- what a connection carried: how much is told of it, and what is kept once it is gone
use Rattle.std.specs.Prelude.{ℕ, ◌^◌, List, ◌++◌, length, map, min, not, ◌&&◌}
use Rattle.sock_tcp.specs.declared.connection.carried.Carried.{Carried}
use Rattle.sock_tcp.specs.declared.connection.carried.Counts.{Counts}
use Rattle.sock_tcp.specs.connection.Tcb.{Tcb}

-- bytes are counted up to here
abbrev pub most_counted : ℕ
most_counted = 2 ^ 30

abbrev pub counted : ℕ → ℕ
counted n = min most_counted n

-- the bytes that a record took from its process, and those that the process read
abbrev pub counts_of : Tcb → Counts
counts_of r = record { written = counted (length r.written); read = counted r.read }

-- the end of what the peer sent was seen where a read found it, and the record never had an error
abbrev pub carried_of : Tcb → Carried
carried_of r = record {
  own = r.control.local;
  peer = r.control.peer;
  counts = counts_of r;
  ended = r.control.saw_end && not r.control.had_error;
}

-- records that are let go are kept so behind those before
abbrev pub with_gone : List Tcb → List Carried → List Carried
with_gone records gone = gone ++ map carried_of records
