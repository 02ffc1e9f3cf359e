-- connections of TCP that send to one another: their records, and the packets on their way between them
use Rattle.std.specs.Prelude.{◌≡◌, ◌⊎◌, ℕ, List, [], ◌∷◌, Bool, true, false, Contains, IsPermutation}
use Rattle.sim_base.specs.declared.address.Addr.{Addr}
use Rattle.sim_base.specs.declared.packet.Load.{Load}
use Rattle.sim_base.specs.declared.packet.Load.TheVariants.{Udp, Tcp}
use Rattle.sim_base.specs.declared.packet.Packet.{Packet}
use Rattle.sock_tcp.specs.segment.Header.{header_of}
use Rattle.sock_tcp.specs.connection.Tcb.{Tcb}
use Rattle.sock_tcp.specs.listener.Listen.{asks}
use Rattle.tcp_laws.specs.Acts.{Start, begun_by, IsStart, Act, acted}
use Rattle.tcp_laws.specs.Acts.Start.{active, passive}
use Rattle.tcp_laws.specs.Acts.Act.{arrival, write, read, flow, shut, close, expiry, error_read}

-- all records that ever were, those let go too, and all packets on their way, wherever they are: in
-- events, in lanes, on loops. Their order means nothing, nor how often a packet is there
pub record Exchange : Type 0 where
  pub records : List Tcb
  pub flying : List Packet

abbrev pub empty_exchange : Exchange
empty_exchange = record { records = []; flying = [] }

-- a datagram, and a RST, tell nothing of a stream
abbrev pub IsVoid : Load → Type 0
IsVoid (Udp text) = Unit {0}
IsVoid (Tcp flags seq ack window text) = (header_of flags seq ack window).rst ≡ true

-- what may come at any moment: such a packet, or one between ends that the exchange isn't about
abbrev pub Comes : (Addr → Addr → Bool) → Packet → Type 0
Comes scope p = IsVoid p.load ⊎ (scope p.from p.to ≡ false)

-- what is on its way afterwards was so before, or was sent now, or came. So packets may be lost, wait,
-- overtake one another and come twice
abbrev pub Flies : (Addr → Addr → Bool) → List Packet → List Packet → List Packet → Type 0
Flies scope before sent after =
    (p : Packet) → Contains after p → Contains before p ⊎ (Contains sent p ⊎ Comes scope p)

-- what arrives at a record is on its way to it from its peer; any other act may be done at any moment
abbrev pub MayAct : List Packet → Tcb → Act → Type 0
MayAct flying r (arrival p) =
    Contains flying p × (p.to ≡ r.control.local) × (p.from ≡ r.control.peer)
MayAct flying r (write bytes) = Unit {0}
MayAct flying r (read count) = Unit {0}
MayAct flying r flow = Unit {0}
MayAct flying r (shut end) = Unit {0}
MayAct flying r close = Unit {0}
MayAct flying r expiry = Unit {0}
MayAct flying r error_read = Unit {0}

-- a SYN without ACK and RST, of this number (RFC 9293, section 3.10.7.2)
abbrev pub AsksFrom : ℕ → Load → Type 0
AsksFrom first (Udp text) = ⊥
AsksFrom first (Tcp flags seq ack window text) =
    (asks (header_of flags seq ack window) ≡ true) × (seq ≡ first)

-- such a SYN is on its way from one end to the other
pub record IsAsked (flying : List Packet) (own other : Addr) (first : ℕ) : Type 0 where
  pub packet : Packet
  pub flies : Contains flying packet
  pub to : packet.to ≡ own
  pub from : packet.from ≡ other
  pub asks : AsksFrom first packet.load

abbrev pub Follows : List Packet → Start → Type 0
Follows flying (active local peer iss) = Unit {0}
Follows flying (passive local peer iss seq) = IsAsked flying local peer seq

-- one step: a record does an act; a new record begins; or packets alone come and go
pub data Step (scope : Addr → Addr → Bool) (m n : Exchange) : Type 0 where
  acts : (r : Tcb) (rest : List Tcb) (act : Act) → IsPermutation m.records (r ∷ rest) → MayAct m.flying r act
      → IsPermutation n.records ((acted act r).tcb ∷ rest) → Flies scope m.flying (acted act r).sent n.flying
      → Step scope m n
  begins : (start : Start) → IsStart start → Follows m.flying start
      → IsPermutation n.records ((begun_by start).tcb ∷ m.records) → Flies scope m.flying (begun_by start).sent n.flying
      → Step scope m n
  goes_on : IsPermutation n.records m.records → Flies scope m.flying [] n.flying → Step scope m n

-- each exchange is a step after the one before it
abbrev pub AreSteps : (Addr → Addr → Bool) → Exchange → List Exchange → Type 0
AreSteps scope m [] = Unit {0}
AreSteps scope m (n ∷ exchanges) = Step scope m n × AreSteps scope n exchanges

abbrev pub last_exchange : Exchange → List Exchange → Exchange
last_exchange m [] = m
last_exchange m (n ∷ exchanges) = last_exchange n exchanges
