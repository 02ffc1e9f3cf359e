-- what a host tells of two ends, by its records
use Rattle.std.specs.Prelude.{Bool, ◌&&◌, List, [], ◌∷◌, Option, Some, None}
use Rattle.sim_base.specs.Addresses.{is_same}
use Rattle.sim_base.specs.declared.address.Addr.{Addr}
use Rattle.sock_tcp.specs.connection.Carried.{carried_of}
use Rattle.sock_tcp.specs.connection.Tcb.{Tcb}
use Rattle.host_sockets.specs.declared.streams.HostStream.{HostStream}
use Rattle.host_sockets.specs.Streams.{stream_of, used_again}

-- a record of these ends, and what is told of them
abbrev pub is_between : Addr → Addr → Tcb → Bool
is_between own peer r = is_same own r.control.local && is_same peer r.control.peer

abbrev pub is_of : Addr → Addr → HostStream → Bool
is_of own peer s = is_same own s.own && is_same peer s.peer

-- by the records of two ends: nothing where there is none, what the only one carried, and of more that the ends were used again
abbrev pub told_of : List Tcb → Option HostStream
told_of [] = None
told_of (r ∷ []) = Some (stream_of (carried_of r))
told_of (r ∷ next ∷ records) = Some (used_again (stream_of (carried_of r)))
