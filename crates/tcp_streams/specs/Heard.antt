-- what a record has heard of another one, and which packets are honest
use Rattle.std.specs.Prelude.{◌≡◌, ◌⊎◌, ℕ, ◌+◌, ◌≤◌, List, ◌++◌, length, Bool, true, Contains}
use Rattle.sim_base.specs.declared.address.Addr.{Addr}
use Rattle.sim_base.specs.declared.packet.Packet.{Packet}
use Rattle.sock_tcp.specs.segment.Number.{wire}
use Rattle.sock_tcp.specs.segment.Refusal.{one_if}
use Rattle.sock_tcp.specs.connection.Tcb.{Tcb}
use Rattle.tcp_laws.specs.Sending.{Sent}
use Rattle.tcp_streams.specs.Exchange.{Exchange, Comes}

-- a list begins with another
pub record IsFront (front whole : List ℕ) : Type 0 where
  pub behind : List ℕ
  pub is : whole ≡ front ++ behind

-- of one that wrote these bytes from the number start on, and wants to end its writing or doesn't yet:
-- RCV.NXT counts its SYN, what was received, what was thrown away and the FIN where it was taken, what was
-- received is a front of what was written, and the FIN was taken where all of it had come
pub record Hears (start : ℕ) (written : List ℕ) (wanted : Bool) (irs rcv : ℕ) (bytes : List ℕ) (thrown : ℕ) (taken : Bool) : Type 0 where
  pub first : irs ≡ wire start 0
  pub expected : rcv ≡ 1 + (length bytes + thrown) + one_if taken
  pub within : length bytes + thrown ≤ length written
  pub front : IsFront bytes written
  pub ended : taken ≡ true → (wanted ≡ true) × (length bytes + thrown ≡ length written)

abbrev pub HearsFrom : Tcb → Tcb → Type 0
HearsFrom w r =
    Hears w.iss w.written w.control.fin_wanted r.irs r.rcv r.received r.discarded r.control.fin_taken

-- it is the other end's record of a connection: its own end is the peer's
abbrev pub IsPeer : Tcb → Tcb → Type 0
IsPeer w r = (w.control.local ≡ r.control.peer) × (w.control.peer ≡ r.control.local)

-- nothing yet, or of a record at the other end
pub record HasWriter (records : List Tcb) (r : Tcb) : Type 0 where
  pub writer : Tcb
  pub among : Contains records writer
  pub peer : IsPeer writer r
  pub hears : HearsFrom writer r

abbrev pub IsHeard : List Tcb → Tcb → Type 0
IsHeard records r = (r.rcv ≡ 0) ⊎ HasWriter records r

-- a packet is honest: it is a record's segment, which goes from its end to its peer, with text from its
-- place in what the record has written, a SYN at the start, and a FIN behind the last byte once writing has
-- ended; a RST tells nothing
abbrev pub SentBy : Tcb → Packet → Type 0
SentBy w p = Sent w.control.local w.control.peer w.iss w.written w.control.fin_wanted p

pub record HasSender (records : List Tcb) (p : Packet) : Type 0 where
  pub sender : Tcb
  pub among : Contains records sender
  pub sent : SentBy sender p

abbrev pub AreHonest : (Addr → Addr → Bool) → Exchange → Type 0
AreHonest scope n =
    (p : Packet) → Contains n.flying p → Comes scope p ⊎ HasSender n.records p
