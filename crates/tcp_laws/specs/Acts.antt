-- what may happen to a record, and what it is afterwards
use Rattle.std.specs.Prelude.{ℕ, ◌^◌, ◌<◌, List, [], ◌∷◌}
use Rattle.sim_base.specs.declared.address.Addr.{Addr}
use Rattle.sim_base.specs.declared.packet.Packet.{Packet}
use Rattle.sock_tcp.specs.declared.connection.effects.Shut.{Shut}
use Rattle.sock_tcp.specs.connection.Tcb.{Tcb, Turn, changed}
use Rattle.sock_tcp.specs.connection.Begin.{begin}
use Rattle.sock_tcp.specs.connection.Arrival.{takes_packet}
use Rattle.sock_tcp.specs.connection.Process as process

-- it begins with a SYN, or with the answer to one
pub data Start : Type 0 where
  active : (local peer : Addr) (iss : ℕ) → Start
  passive : (local peer : Addr) (iss seq : ℕ) → Start

abbrev pub begun_by : Start → Turn
begun_by (active local peer iss) = process.opened local peer iss
begun_by (passive local peer iss seq) = process.answered local peer iss seq

-- the first number is one of 32 bits
abbrev pub IsStart : Start → Type 0
IsStart (active local peer iss) = iss < 2 ^ 32
IsStart (passive local peer iss seq) = iss < 2 ^ 32

-- a segment arrives, the process calls, or the timer expires
pub data Act : Type 0 where
  arrival : (p : Packet) → Act
  write : (bytes : List ℕ) → Act
  read : (count : ℕ) → Act
  flow : Act
  shut : (end : Shut) → Act
  close : Act
  expiry : Act
  error_read : Act

abbrev pub act_of : Act → Turn → Turn
act_of (arrival p) t = takes_packet p t
act_of (write bytes) t = changed (process.writes bytes) t
act_of (read count) t = changed (process.reads count) t
act_of flow t = process.flows t
act_of (shut end) t = process.shuts end t
act_of close t = process.closes t
act_of expiry t = process.expires t
act_of error_read t = changed process.error_taken t

-- one act on a record
abbrev pub acted : Act → Tcb → Turn
acted act r = act_of act (begin r)

-- the record after acts, one behind another
abbrev pub record_after : List Act → Tcb → Tcb
record_after [] r = r
record_after (act ∷ acts) r = record_after acts (acted act r).tcb

abbrev pub record_of : Start → List Act → Tcb
record_of start acts = record_after acts (begun_by start).tcb
