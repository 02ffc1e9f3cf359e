-- The bytes of a datagram, and the packet that they tell.
use Rattle.std.proofs.Common.{◌≡◌, ℕ, ◌≤◌, List, ◌++◌, length, length-drop, Bool, true, false, cond, Option, Some, None, refl, sym, ap, ◌∙◌, arith}
use Rattle.std.specs.Prelude.{◌==◌, ◌&&◌, nat_le, slice_index}
use Rattle.std.proofs.lemmas.Bool.{le-leb, leb-true}
use Rattle.std.proofs.lemmas.Option.{cond_some}
use Rattle.std.proofs.lemmas.Nat.{from_be_bytes-to_be_bytes_2, from_be_bytes-to_be_bytes_4}
use Rattle.std.specs.Int.{w16, w32, to_be_bytes, from_be_bytes}
use Rattle.sim_base.specs.declared.address.Addr.{Addr}
use Rattle.sim_base.specs.Packet.{packet_size, load_size}
use Rattle.sim_base.specs.declared.packet.Load.{Load}
use Rattle.sim_base.specs.declared.packet.Load.TheVariants.{Udp, Tcp}
use Rattle.sim_base.specs.declared.packet.Packet.{Packet}
use Rattle.pcap_text.specs.Datagram.{datagram, datagram_bytes, ip_check, ip_header, segment_of, segment_check, udp_protocol, tcp_protocol, longest}
use Rattle.pcap_text.specs.Packets.{fields, packet_with, udp_at, tcp_at, Fits, FitsAddr, FitsLoad, udp_headers, tcp_headers}

segment_size : (check from to : ℕ) (load : Load) → length (segment_of check from to load) ≡ load_size load
segment_size check from to (Udp text) = omega arith
segment_size check from to (Tcp flags seq ack window text) = omega arith

pub datagram_size : (p : Packet) → length (datagram_bytes p) ≡ packet_size p
unfolding datagram_bytes
datagram_size p = omega (arith, segment_size (segment_check p) p.from.port p.to.port p.load)

-- ---- the fields of a datagram tell its packet

abbrev addr : ℕ → ℕ → Addr
addr bits port = record { ip = record { bits = bits }; port = port }

addr_again : (a : Addr) → FitsAddr a → addr (from_be_bytes w32 (to_be_bytes w32 a.ip.bits)) (from_be_bytes w16 (to_be_bytes w16 a.port)) ≡ a
addr_again a fits =
    ap (λ (n : ℕ). addr n (from_be_bytes w16 (to_be_bytes w16 a.port))) (from_be_bytes-to_be_bytes_4 a.ip.bits fits.0)
    ∙ ap (λ (n : ℕ). addr a.ip.bits n) (from_be_bytes-to_be_bytes_2 a.port fits.1)

abbrev made : Addr → Addr → Load → Packet
made from to load = record { from = from; to = to; load = load }

made_again : (a b : Addr) (c d : Addr) (e f : Load) → a ≡ b → c ≡ d → e ≡ f → ◌≡◌ {A = Option Packet} (Some (made a c e)) (Some (made b d f))
made_again a b c d e f p q r = cc

abbrev tcp : ℕ → ℕ → ℕ → ℕ → List ℕ → Load
tcp flags seq ack window text = Tcp flags seq ack window text

tcp_again : (flags seq ack window : ℕ) (text : List ℕ) → FitsLoad (Tcp flags seq ack window text)
    → tcp flags (from_be_bytes w32 (to_be_bytes w32 seq)) (from_be_bytes w32 (to_be_bytes w32 ack)) (from_be_bytes w16 (to_be_bytes w16 window)) text ≡ tcp flags seq ack window text
tcp_again flags seq ack window text fits =
    ap (λ (n : ℕ). tcp flags n (from_be_bytes w32 (to_be_bytes w32 ack)) (from_be_bytes w16 (to_be_bytes w16 window)) text) (from_be_bytes-to_be_bytes_4 seq fits.1)
    ∙ ap (λ (n : ℕ). tcp flags seq n (from_be_bytes w16 (to_be_bytes w16 window)) text) (from_be_bytes-to_be_bytes_4 ack fits.2)
    ∙ ap (λ (n : ℕ). tcp flags seq ack n text) (from_be_bytes-to_be_bytes_2 window fits.3)

fields_udp : (bytes : List ℕ) → udp_headers ≤ length bytes → slice_index bytes 9 ≡ udp_protocol → fields bytes ≡ Some (packet_with bytes (udp_at bytes))
unfolding fields
fields_udp bytes long e = rw (le-leb udp_headers (length bytes) long, e) refl

fields_tcp : (bytes : List ℕ) → tcp_headers ≤ length bytes → slice_index bytes 9 ≡ tcp_protocol → fields bytes ≡ Some (packet_with bytes (tcp_at bytes))
unfolding fields
fields_tcp bytes long e = rw (le-leb udp_headers (length bytes) (omega arith), le-leb tcp_headers (length bytes) long, e) refl

-- a datagram's fields, whatever its checksums are
fields_again : (check sum : ℕ) (from to : Addr) (load : Load) → FitsAddr from → FitsAddr to → FitsLoad load
    → fields (ip_header check (made from to load) ++ segment_of sum from.port to.port load) ≡ Some (made from to load)
fields_again check sum from to (Udp text) f t l =
    fields_udp (ip_header check (made from to (Udp text)) ++ segment_of sum from.port to.port (Udp text)) (omega arith) refl
    ∙ made_again _ from _ to (Udp text) (Udp text) (addr_again from f) (addr_again to t) refl
fields_again check sum from to (Tcp flags seq ack window text) f t l =
    fields_tcp (ip_header check (made from to (Tcp flags seq ack window text)) ++ segment_of sum from.port to.port (Tcp flags seq ack window text)) (omega arith) refl
    ∙ made_again _ from _ to _ (Tcp flags seq ack window text) (addr_again from f) (addr_again to t) (tcp_again flags seq ack window text l)

pub datagram_again : (p : Packet) → Fits p → fields (datagram_bytes p) ≡ Some p
unfolding datagram_bytes
datagram_again p fits = fields_again (ip_check p) (segment_check p) p.from p.to p.load fits.from fits.to fits.load

-- ---- what the fields tell has the size of the bytes

sized : (long is : Bool) (x p : Packet) (other : Option Packet) (n : ℕ) → (long ≡ true → packet_size x ≡ n) → (other ≡ Some p → packet_size p ≡ n)
    → cond (long && is) (Some x) other ≡ Some p → packet_size p ≡ n
sized true true x p other n f g e =
    let q : x ≡ p = cc in
    ap packet_size (sym q) ∙ f refl
sized true false x p other n f g e = g e
sized false is x p other n f g e = g e

pub fields_size : (bytes : List ℕ) (p : Packet) → fields bytes ≡ Some p → packet_size p ≡ length bytes
unfolding fields
fields_size bytes p e =
    sized (nat_le udp_headers (length bytes)) (slice_index bytes 9 == udp_protocol) (packet_with bytes (udp_at bytes)) p
    (cond (nat_le tcp_headers (length bytes) && (slice_index bytes 9 == tcp_protocol)) (Some (packet_with bytes (tcp_at bytes))) None) (length bytes)
    (λ l. omega (arith, length-drop udp_headers bytes, leb-true udp_headers (length bytes) l))
    (λ r. sized (nat_le tcp_headers (length bytes)) (slice_index bytes 9 == tcp_protocol) (packet_with bytes (tcp_at bytes)) p None (length bytes)
    (λ l. omega (arith, length-drop tcp_headers bytes, leb-true tcp_headers (length bytes) l)) (λ none. absurd cc) r)
    e

-- ---- datagrams

-- what it means to be the datagram of a packet
pub record IsDatagramOf (bytes : List ℕ) (p : Packet) : Type 0 where
  pub size : packet_size p ≤ longest
  pub same : datagram_bytes p ≡ bytes
  pub long : length bytes ≤ longest

pub datagram_is : (p : Packet) (bytes : List ℕ) → datagram p ≡ Some bytes → IsDatagramOf bytes p
datagram_is p bytes e =
    let parts = cond_some (nat_le (packet_size p) longest) (datagram_bytes p) bytes e in
    let size : packet_size p ≤ longest = leb-true (packet_size p) longest parts.0 in
    record { size = size; same = parts.1; long = omega (arith, datagram_size p, ap length parts.1) }

pub is_datagram : (p : Packet) (bytes : List ℕ) → packet_size p ≤ longest → datagram_bytes p ≡ bytes → datagram p ≡ Some bytes
is_datagram p bytes size same = rw (le-leb (packet_size p) longest size) (ap (λ (b : List ℕ). Some b) same)

-- the bytes tell the one packet whose datagram they are
pub tells : (p : Packet) (bytes : List ℕ) → Fits p → datagram p ≡ Some bytes → fields bytes ≡ Some p
tells p bytes fits e = ap fields (sym (datagram_is p bytes e).same) ∙ datagram_again p fits

pub one_packet : (a b : Packet) (bytes : List ℕ) → Fits a → Fits b → datagram a ≡ Some bytes → datagram b ≡ Some bytes → a ≡ b
one_packet a b bytes f g d e =
    let p : fields bytes ≡ Some a = tells a bytes f d in
    let q : fields bytes ≡ Some b = tells b bytes g e in
    cc

pub one_datagram : (a b : Packet) → Fits a → Fits b → packet_size a ≤ longest → packet_size b ≤ longest → datagram a ≡ datagram b → a ≡ b
one_datagram a b f g m n e =
    let made_of_b : datagram b ≡ Some (datagram_bytes b) = is_datagram b (datagram_bytes b) n refl in
    one_packet a b (datagram_bytes b) f g (e ∙ made_of_b) made_of_b
