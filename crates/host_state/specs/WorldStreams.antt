-- What became of the bytes of the connections of a world.
use Rattle.std.specs.Prelude.{List, map}
use Rattle.host_sockets.specs.Streams.{streams_of}
use Rattle.out_text.specs.declared.streams.Stream.{Stream}
use Rattle.stream_pairs.specs.Directions.{Kept, directions}
use Rattle.host_state.specs.HostRecord.{HostRecord}
use Rattle.host_state.specs.World.{World}

-- a host's number and address, and what it keeps of each pair of ends of which it had a record
abbrev pub kept_by : HostRecord → Kept
kept_by h = record { host = record { index = h.link.number }; address = h.row.address; streams = streams_of h.parts.sockets }

-- the directions of all of them
abbrev pub streams_in : World → List Stream
streams_in w = directions (map kept_by w.hosts)
