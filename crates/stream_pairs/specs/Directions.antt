-- What became of the bytes of connections (this project's own profile): for each pair of ends of which a host had a record, what was written
-- there, and what was read of it at the other end.
use Rattle.std.specs.Prelude.{ℕ, ◌^◌, Bool, false, ◌&&◌, ◌||◌, nat_le, List, map, flat_map, find, Option, Some, None, unwrap_or, if◌then◌else◌}
use Rattle.sim_base.specs.Addresses.{is_same, is_same_ip, loopback}
use Rattle.sim_base.specs.declared.address.Addr.{Addr}
use Rattle.sim_base.specs.declared.address.Ip.{Ip}
use Rattle.sim_base.specs.declared.host.HostId.{HostId}
use Rattle.out_text.specs.declared.streams.Fate.{Fate}
use Rattle.out_text.specs.declared.streams.Fate.TheVariants.{Counted, Reused, Long}
use Rattle.out_text.specs.declared.streams.Stream.{Stream}
use Rattle.host_sockets.specs.declared.streams.HostStream.{HostStream}
use Rattle.stream_pairs.specs.declared.kept.KeptStreams.{KeptStreams}

-- a host's number and address, and what it keeps of each pair of ends of which it had a record
pub record Kept : Type 0 where
  pub host : HostId
  pub address : Ip
  pub streams : List HostStream

-- the same as the code has it
abbrev pub kept_in : KeptStreams → Kept
kept_in k = record { host = k.host; address = k.address; streams = k.streams.items }

-- ---- the other end

-- a pair with 127.0.0.1 at an end is within its host
abbrev pub is_within : HostStream → Bool
is_within s = is_same_ip s.own.ip loopback || is_same_ip s.peer.ip loopback

-- else its other end is at the host that has the peer's address
abbrev pub other_host : List Kept → Kept → HostStream → Option Kept
other_host all k s = if is_within s then Some k else find (λ (other : Kept). is_same_ip s.peer.ip other.address) all

abbrev pub is_between : Addr → Addr → HostStream → Bool
is_between own peer s = is_same s.own own && is_same s.peer peer

-- of a pair of which there was no record nothing was written or read
abbrev pub unused : Addr → Addr → HostStream
unused own peer = record { own = own; peer = peer; reused = false; written = 0; read = 0; ended = false }

abbrev pub kept_at : Addr → Addr → Option Kept → HostStream
kept_at own peer None = unused own peer
kept_at own peer (Some k) = unwrap_or (find (is_between own peer) k.streams) (unused own peer)

-- what is kept at the other end
abbrev pub other_end : List Kept → Kept → HostStream → HostStream
other_end all k s = kept_at s.peer s.own (other_host all k s)

-- ---- what became of the bytes

-- 2^30 bytes, which is where counts stop
abbrev pub most_counted : ℕ
most_counted = 2 ^ 30

abbrev pub is_long : HostStream → Bool
is_long s = nat_le most_counted s.written

-- nothing is told where an end had more than one record, or where either wrote 2^30 bytes or more; else what the one end wrote, what the other
-- read, and whether that saw the end
abbrev pub fate_between : HostStream → HostStream → Fate
fate_between from to =
    if from.reused || to.reused then Reused
    else (if is_long from || is_long to then Long
    else Counted from.written to.read to.ended)

abbrev pub direction : List Kept → Kept → HostStream → Stream
direction all k s = record { host = k.host; own = s.own; peer = s.peer; fate = fate_between s (other_end all k s) }

-- in the order of hosts, and for each host in the order of what it keeps
unfoldable pub directions : List Kept → List Stream
directions all = flat_map (λ (k : Kept). map (direction all k) k.streams) all
