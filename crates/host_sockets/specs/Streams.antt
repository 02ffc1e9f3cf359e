-- what a host tells of its connections: for each pair of ends of which it ever had a record, also one that was let go
use Rattle.std.specs.Prelude.{false, true, List, [], ◌∷◌, map, fold}
use Rattle.std.specs.Ordering.{nat_cmp, on, then_cmp, match_ordering}
use Rattle.std.specs.declared.cmp.Ordering.{Ordering}
use Rattle.sim_base.specs.declared.address.Addr.{Addr}
use Rattle.sock_tcp.specs.declared.connection.carried.Carried.{Carried}
use Rattle.sock_tcp.specs.connection.Carried.{carried_of}
use Rattle.host_sockets.specs.declared.streams.HostStream.{HostStream}
use Rattle.host_sockets.specs.Sockets.{SocketsRecord}
use Rattle.host_sockets.specs.Records.{records_of}

-- of a pair with one record what that carried is told; of a pair with more of them, that it was used again
abbrev pub stream_of : Carried → HostStream
stream_of c = record {
  own = c.own;
  peer = c.peer;
  reused = false;
  written = c.counts.written;
  read = c.counts.read;
  ended = c.ended;
}

abbrev pub used_again : HostStream → HostStream
used_again s = record { own = s.own; peer = s.peer; reused = true; written = 0; read = 0; ended = false }

-- the order of pairs: by own address, own port, peer's address and peer's port, as numbers
abbrev pub addr_order : Addr → Addr → Ordering
addr_order = then_cmp (on (λ a. a.ip.bits) nat_cmp) (on (λ a. a.port) nat_cmp)

abbrev pub pair_order : HostStream → HostStream → Ordering
pair_order = then_cmp (on (λ s. s.own) addr_order) (on (λ s. s.peer) addr_order)

-- a stream stands in its place; where one of its pair stands there already, the pair was used again
abbrev pub with_stream : HostStream → List HostStream → List HostStream
with_stream s [] = s ∷ []
with_stream s (next ∷ streams) =
    match_ordering (pair_order s next) (s ∷ next ∷ streams) (used_again next ∷ streams) (next ∷ with_stream s streams)

abbrev pub with_carried : List HostStream → Carried → List HostStream
with_carried streams c = with_stream (stream_of c) streams

unfoldable pub streams_of : SocketsRecord → List HostStream
streams_of t = fold with_carried [] (map carried_of (records_of t))
