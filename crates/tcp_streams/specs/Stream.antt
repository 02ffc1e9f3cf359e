-- the stream from one end to another: what was written at the one, what was read at the other, and whether
-- the end was seen there
use Rattle.std.specs.Prelude.{◌≡◌, ℕ, ◌<◌, ◌≤◌, ◌^◌, List, [], length, take, find, count_by, Bool, true, false, not, ◌&&◌, Option, Some, None, Contains}
use Rattle.sim_base.specs.Addresses.{is_same}
use Rattle.sim_base.specs.declared.address.Addr.{Addr}
use Rattle.sock_tcp.specs.connection.Tcb.{Tcb}
use Rattle.tcp_streams.specs.Heard.{IsFront}

-- a record of these two ends
abbrev pub is_at : Addr → Addr → Tcb → Bool
is_at own other r = is_same r.control.local own && is_same r.control.peer other

-- an end had at most one record with this other end, to which fewer than 2^30 bytes were written
pub record IsOnce (own other : Addr) (records : List Tcb) : Type 0 where
  pub once : count_by (is_at own other) records ≤ 1
  pub short : (r : Tcb) → Contains records r → is_at own other r ≡ true → length r.written < 2 ^ 30

abbrev pub IsSimple : Addr → Addr → List Tcb → Type 0
IsSimple own other records = IsOnce own other records × IsOnce other own records

pub record Stream : Type 0 where
  pub written : List ℕ
  pub read : List ℕ
  pub ended : Bool

abbrev pub record_at : Addr → Addr → List Tcb → Option Tcb
record_at own other records = find (is_at own other) records

abbrev pub written_by : Option Tcb → List ℕ
written_by None = []
written_by (Some r) = r.written

abbrev pub read_by : Option Tcb → List ℕ
read_by None = []
read_by (Some r) = take r.read r.received

-- a read of at least one byte found the end, while reading hadn't been ended, and the record never had an
-- error, neither before nor since
abbrev pub end_seen_by : Option Tcb → Bool
end_seen_by None = false
end_seen_by (Some r) = r.control.saw_end && not r.control.had_error

abbrev pub stream_of : Addr → Addr → List Tcb → Stream
stream_of from to records = record {
  written = written_by (record_at from to records);
  read = read_by (record_at to from records);
  ended = end_seen_by (record_at to from records);
}

-- what was read is a front of what was written, and all of it where the end was seen
pub record IsFaithful (s : Stream) : Type 0 where
  pub front : IsFront s.read s.written
  pub whole : s.ended ≡ true → s.read ≡ s.written
