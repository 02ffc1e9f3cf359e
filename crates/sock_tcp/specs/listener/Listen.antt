-- a listener: LISTEN, and the records that wait to be accepted (RFC 9293, section 3.10.7.2)
use Rattle.std.specs.Prelude.{ℕ, ℤ, pos, negsuc, ◌-◌, ◌%◌, ◌^◌, ◌==◌, nat_lt, List, [], ◌∷◌, ◌++◌, length, map, filter, slice_get, slice_set, min, max, Bool, false, not, ◌&&◌, ◌||◌, if◌then◌else◌, Option, Some, None}
use Rattle.std.specs.List.{remove}
use Rattle.sim_base.specs.Addresses.{any, is_same_ip}
use Rattle.sim_base.specs.declared.address.Addr.{Addr}
use Rattle.sim_base.specs.declared.packet.Packet.{Packet}
use Rattle.sim_base.specs.declared.packet.Load.{Load}
use Rattle.sim_base.specs.declared.packet.Load.TheVariants.{Udp, Tcp}
use Rattle.sim_base.specs.declared.time.Time.{Time}
use Rattle.sock_tcp.specs.segment.Header.{header_of}
use Rattle.sock_tcp.specs.segment.State.{is_over}
use Rattle.sock_tcp.specs.declared.segment.header.Header.{Header}
use Rattle.sock_tcp.specs.connection.Tcb.{Tcb, Turn}
use Rattle.sock_tcp.specs.connection.Timer.{timer_of}
use Rattle.sock_tcp.specs.connection.Pairs.{place_in}
use Rattle.sock_tcp.specs.connection.Resets.{resets_of}
use Rattle.sock_tcp.specs.connection.Arrival.{takes_packet}
use Rattle.sock_tcp.specs.connection.Process.{answered, expires}
use Rattle.sock_tcp.specs.connection.Begin.{begin}

-- the own end, how many records the queues hold, the records that weren't accepted, in the order of
-- their SYNs, and the accept queue: the places of those that became ESTABLISHED, in this order. The
-- others are the SYN queue
pub record Listen : Type 0 where
  pub local : Addr
  pub limit : ℕ
  pub records : List Tcb
  pub accept_queue : List ℕ

-- what an act of a listener leaves and brings about
pub record Heard : Type 0 where
  pub listen : Listen
  pub sent : List Packet
  pub timer : Option Time

-- the queues hold as many as the process asks for, at least one and at most 128
abbrev pub max_backlog : ℕ
max_backlog = 128

abbrev pub queue_limit : ℤ → ℕ
queue_limit (pos n) = max 1 (min n max_backlog)
queue_limit (negsuc n) = 1

-- a listener without records
unfoldable pub fresh_listen : Addr → ℤ → Listen
fresh_listen local backlog =
    record { local = local; limit = queue_limit backlog; records = []; accept_queue = [] }

-- the record at a place leaves, and those behind it move up
abbrev pub is_elsewhere : ℕ → ℕ → Bool
is_elsewhere gone place = not (place == gone)

abbrev pub place_past : ℕ → ℕ → ℕ
place_past gone place = if nat_lt gone place then place - 1 else place

abbrev pub places_past : ℕ → List ℕ → List ℕ
places_past gone places = map (place_past gone) (filter (is_elsewhere gone) places)

unfoldable pub without : ℕ → Listen → Listen
without place l = record l {
  records = remove l.records place;
  accept_queue = places_past place l.accept_queue;
}

abbrev pub replaced : ℕ → Tcb → Listen → Listen
replaced place r l = record l { records = slice_set l.records place r }

abbrev pub waits : ℕ → Listen → Listen
waits place l = record l { accept_queue = l.accept_queue ++ place ∷ [] }

-- after an act on the record at a place: one that became ESTABLISHED waits behind the others, and
-- one of the SYN queue that is over leaves
unfoldable pub requeued : ℕ → Bool → Tcb → Listen → Listen
requeued place before r l =
    if r.control.was_established then (if before then l else waits place l)
    else if is_over r.control.state then without place l
    else l

-- the record at a place does an act, if there is one
abbrev pub record_heard : ℕ → Bool → Turn → Listen → Heard
record_heard place before t l = record {
  listen = requeued place before t.tcb (replaced place t.tcb l);
  sent = t.sent;
  timer = timer_of t;
}

abbrev pub nothing_heard : Listen → Heard
nothing_heard l = record { listen = l; sent = []; timer = None }

abbrev pub record_acts : (Turn → Turn) → ℕ → Option Tcb → Listen → Heard → Heard
record_acts act place None l otherwise = otherwise
record_acts act place (Some r) l otherwise =
    record_heard place r.control.was_established (act (begin r)) l

-- the live record of two ends does an act
unfoldable pub kept_acts : (Turn → Turn) → Addr → Addr → Listen → Heard → Heard
kept_acts act own other l otherwise =
    let place = place_in own other l.records in
    record_acts act place (slice_get l.records place) l otherwise

-- a SYN alone asks for a connection; it makes a record while the queues have room
abbrev pub asks : Header → Bool
asks h = h.syn && (not h.has_ack && not h.rst)

abbrev pub has_room : Listen → Bool
has_room l = nat_lt (length l.records) l.limit

unfoldable pub record_made : Turn → Listen → Heard
record_made t l = record {
  listen = record l { records = l.records ++ t.tcb ∷ [] };
  sent = t.sent;
  timer = timer_of t;
}

abbrev pub makes_record : Header → Listen → Bool
makes_record h l = asks h && has_room l

unfoldable pub asked : Packet → Header → ℕ → Listen → Heard
asked p h word l =
    if makes_record h l
    then record_made (answered p.to p.from (word % 2 ^ 32) h.seq) l
    else nothing_heard l

abbrev pub load_header : Load → Option Header
load_header (Udp text) = None
load_header (Tcp flags seq ack window text) = Some (header_of flags seq ack window)

abbrev pub new_heard : Packet → Option Header → ℕ → Listen → Heard
new_heard p None word l = nothing_heard l
new_heard p (Some h) word l = asked p h word l

-- a segment goes to the record of its pair, else it may ask for a new one, whose first number is
-- that of a word
unfoldable pub hears : Packet → ℕ → Listen → Heard
hears p word l =
    kept_acts (takes_packet p) p.to p.from l (new_heard p (load_header p.load) word l)

-- whether it keeps a live record of two ends
abbrev pub is_kept : Addr → Addr → Listen → Bool
is_kept own other l = nat_lt (place_in own other l.records) (length l.records)

-- whether a segment makes a record, and so takes the word
abbrev pub header_makes : Option Header → Listen → Bool
header_makes None l = false
header_makes (Some h) l = makes_record h l

unfoldable pub takes_word : Packet → Listen → Bool
takes_word p l = not (is_kept p.to p.from l) && header_makes (load_header p.load) l

-- the timer of a kept record expires
unfoldable pub hears_timer : Addr → Addr → Listen → Heard
hears_timer own other l = kept_acts expires own other l (nothing_heard l)

-- the oldest record of the accept queue is accepted, if one waits
abbrev pub accepted_at : ℕ → Option Tcb → Listen → Option (Tcb × Listen)
accepted_at place None l = None
accepted_at place (Some r) l = Some (r, without place l)

abbrev pub accepted_from : List ℕ → Listen → Option (Tcb × Listen)
accepted_from [] l = None
accepted_from (place ∷ behind) l = accepted_at place (slice_get l.records place) l

unfoldable pub accepts : Listen → Option (Tcb × Listen)
accepts l = accepted_from l.accept_queue l

-- it is closed: each record that wasn't accepted is reset, in the order of their SYNs
abbrev pub closed_listen : Listen → Listen
closed_listen l = record l { records = []; accept_queue = [] }

unfoldable pub hears_close : Listen → Heard
hears_close l = record { listen = closed_listen l; sent = resets_of l.records; timer = None }

-- whether a segment that belongs to no record is for this listener: a SYN alone to its port, and to
-- its address where that isn't 0.0.0.0
abbrev pub asks_in : Option Header → Bool
asks_in None = false
asks_in (Some h) = asks h

abbrev pub listens_at : Addr → Addr → Bool
listens_at to local =
    (local.port == to.port) && (is_same_ip local.ip any || is_same_ip local.ip to.ip)

unfoldable pub takes : Packet → Listen → Bool
takes p l = asks_in (load_header p.load) && listens_at p.to l.local
