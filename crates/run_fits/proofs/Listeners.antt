-- listeners keep records that fit
use Rattle.sim_base.specs.declared.packet.Packet.{Packet}
use Rattle.std.proofs.Common.{Bool, IfSome, List, None, Option, Some, [], slice_get, ℕ, ℤ, ◌%◌, ◌^◌, ◌∷◌}
use Rattle.sock_tcp.specs.connection.Arrival.{takes_packet}
use Rattle.sock_tcp.specs.connection.Begin.{begin}
use Rattle.sock_tcp.specs.connection.Pairs.{place_in}
use Rattle.sock_tcp.specs.connection.Process.{answered, expires}
use Rattle.sock_tcp.specs.connection.Tcb.{Turn, Tcb}
use Rattle.sock_tcp.specs.listener.Listen.{accepts, asked, hears, record_acts, record_heard, replaced, requeued, without, Listen, Heard, accepted_at, accepted_from, fresh_listen, hears_close, hears_timer, kept_acts, load_header, makes_record, new_heard, nothing_heard, record_made}
use Rattle.pcap_text.specs.Laws.{IsWhole}
use Rattle.pcap_text.specs.Packets.{FitsAddr}
use Rattle.run_fits.proofs.Bytes.{all_append, all_set, all_without, got}
use Rattle.run_fits.proofs.Records.{TurnFits, answered_fits, begin_fits, expires_fits, resets_whole, takes_packet_fits}
use Rattle.run_fits.specs.Packets.{AreWhole}
use Rattle.run_fits.specs.Sockets.{ListenFits, TcbFits}
use Rattle.sim_base.specs.declared.address.Addr.{Addr}
use Rattle.sock_tcp.specs.declared.segment.header.Header.{Header}
use Rattle.sock_tcp.specs.segment.State.{is_over}
use Rattle.tcp_laws.proofs.Tests.{by_test}

-- what an act of a listener leaves and brings about
abbrev pub HeardFits : Heard → Type 0
HeardFits heard = ListenFits heard.listen × AreWhole heard.sent

abbrev pub KeepsTurns : (Turn → Turn) → Type 0
KeepsTurns act = (t : Turn) → TurnFits t → TurnFits (act t)

pub without_fits : (place : ℕ) (l : Listen) → ListenFits l → ListenFits (without place l)
unfolding without
without_fits place l h = (h.0, all_without TcbFits place l.records h.1)

requeued_fits : (place : ℕ) (before : Bool) (r : Tcb) (l : Listen) → ListenFits l → ListenFits (requeued place before r l)
unfolding requeued
requeued_fits place before r l h =
    by_test ListenFits r.control.was_established _ _
    (λ e. by_test ListenFits before _ _ (λ k. h) (λ k. h))
    (λ e. by_test ListenFits (is_over r.control.state) _ _ (λ k. without_fits place l h) (λ k. h))

heard_fits : (place : ℕ) (before : Bool) (t : Turn) (l : Listen) → TurnFits t → ListenFits l → HeardFits (record_heard place before t l)
heard_fits place before t l k h =
    (requeued_fits place before t.tcb (replaced place t.tcb l) (h.0, all_set TcbFits l.records place t.tcb h.1 k.0), k.1)

acts_fits : (act : Turn → Turn) (place : ℕ) (found : Option Tcb) (l : Listen) (otherwise : Heard) → KeepsTurns act → IfSome found TcbFits → ListenFits l → HeardFits otherwise → HeardFits (record_acts act place found l otherwise)
acts_fits act place None l otherwise keeps there h k = k
acts_fits act place (Some r) l otherwise keeps there h k =
    heard_fits place r.control.was_established (act (begin r)) l (keeps (begin r) (begin_fits r there)) h

kept_fits : (act : Turn → Turn) (own other : Addr) (l : Listen) (otherwise : Heard) → KeepsTurns act → ListenFits l → HeardFits otherwise → HeardFits (kept_acts act own other l otherwise)
unfolding kept_acts
kept_fits act own other l otherwise keeps h k =
    let place = place_in own other l.records in
    acts_fits act place (slice_get l.records place) l otherwise keeps (got TcbFits l.records place h.1) h k

made_fits : (t : Turn) (l : Listen) → TurnFits t → ListenFits l → HeardFits (record_made t l)
unfolding record_made
made_fits t l k h = ((h.0, all_append TcbFits l.records (t.tcb ∷ []) h.1 (k.0, tt)), k.1)

asked_fits : (p : Packet) (header : Header) (word : ℕ) (l : Listen) → IsWhole p → ListenFits l → HeardFits (asked p header word l)
unfolding asked
asked_fits p header word l whole h =
    by_test HeardFits (makes_record header l) _ _
    (λ e. made_fits (answered p.to p.from (word % 2 ^ 32) header.seq) l (answered_fits p.to p.from (word % 2 ^ 32) header.seq whole.fits.to whole.fits.from) h)
    (λ e. (h, tt))

new_fits : (p : Packet) (header : Option Header) (word : ℕ) (l : Listen) → IsWhole p → ListenFits l → HeardFits (new_heard p header word l)
new_fits p None word l whole h = (h, tt)
new_fits p (Some header) word l whole h = asked_fits p header word l whole h

pub hears_fits : (p : Packet) (word : ℕ) (l : Listen) → IsWhole p → ListenFits l → HeardFits (hears p word l)
unfolding hears
hears_fits p word l whole h =
    kept_fits (takes_packet p) p.to p.from l _ (λ t k. takes_packet_fits p t whole k) h (new_fits p (load_header p.load) word l whole h)

pub hears_timer_fits : (own other : Addr) (l : Listen) → ListenFits l → HeardFits (hears_timer own other l)
unfolding hears_timer
hears_timer_fits own other l h = kept_fits expires own other l (nothing_heard l) expires_fits h (h, tt)

pub hears_close_fits : (l : Listen) → ListenFits l → HeardFits (hears_close l)
unfolding hears_close
hears_close_fits l h = ((h.0, tt), resets_whole l.records h.1)

-- a record that is accepted, and what the listener is without it
abbrev pub GivenFits : Option (Tcb × Listen) → Type 0
GivenFits given = IfSome given (λ (g : Tcb × Listen). TcbFits g.0 × ListenFits g.1)

accepted_fits : (place : ℕ) (found : Option Tcb) (l : Listen) → IfSome found TcbFits → ListenFits l → GivenFits (accepted_at place found l)
accepted_fits place None l there h = tt
accepted_fits place (Some r) l there h = (there, without_fits place l h)

from_fits : (queue : List ℕ) (l : Listen) → ListenFits l → GivenFits (accepted_from queue l)
from_fits [] l h = tt
from_fits (place ∷ behind) l h =
    accepted_fits place (slice_get l.records place) l (got TcbFits l.records place h.1) h

pub accepts_fits : (l : Listen) → ListenFits l → GivenFits (accepts l)
unfolding accepts
accepts_fits l h = from_fits l.accept_queue l h

pub fresh_fits : (at : Addr) (backlog : ℤ) → FitsAddr at → ListenFits (fresh_listen at backlog)
unfolding fresh_listen
fresh_fits at backlog fits = (fits, tt)
