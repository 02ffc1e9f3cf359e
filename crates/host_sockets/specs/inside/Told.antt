-- what the code's table of pairs tells: of the ends of one record what that carried, and of those that had more nothing else
use Rattle.std.specs.Prelude.{Bool, true, false, List, map, Option, Some, None, if◌then◌else◌}
use Rattle.sock_tcp.specs.declared.connection.carried.Carried.{Carried}
use Rattle.host_sockets.specs.declared.streams.HostStream.{HostStream}
use Rattle.host_sockets.specs.declared.tables.Ends.{Ends}

abbrev pub told : Ends × Option Carried → HostStream
told (ends, Some c) = record {
  own = ends.own;
  peer = ends.other;
  reused = false;
  written = c.counts.written;
  read = c.counts.read;
  ended = c.ended;
}
told (ends, None) = record { own = ends.own; peer = ends.other; reused = true; written = 0; read = 0; ended = false }

abbrev pub all_told : List (Ends × Option Carried) → List HostStream
all_told entries = map told entries

-- what is entered at the ends of a record, where there is an entry and where there is none
abbrev pub unless : Bool → Carried → Option Carried
unless again c = if again then None else Some c
