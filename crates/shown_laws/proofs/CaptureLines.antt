-- Each record of a capture has a line: whether it keeps the whole datagram of a packet is decided.
use Rattle.std.proofs.Common.{◌≡◌, ℕ, ◌^◌, ◌<◌, ◌≤◌, ◌==◌, Bool, true, false, Decides, List, [], ◌∷◌, ◌++◌, length, bytes_eq, Option, Some, None, ◌⊎◌, refl, subst, arith, inl, inr}
use Rattle.std.proofs.lemmas.Bool.{cases_lt}
use Rattle.std.proofs.lemmas.Bool.Decides.{Decides-eqb}
use Rattle.std.proofs.lemmas.Slice.Eq.{bytes_eq-Decides}
use Rattle.sim_base.specs.Packet.{packet_size}
use Rattle.sim_base.specs.declared.address.Addr.{Addr}
use Rattle.sim_base.specs.declared.packet.Load.{Load}
use Rattle.sim_base.specs.declared.packet.Load.TheVariants.{Udp, Tcp}
use Rattle.sim_base.specs.declared.packet.Packet.{Packet}
use Rattle.pcap_text.specs.Datagram.{datagram, datagram_bytes, longest}
use Rattle.pcap_text.specs.Packets.{fields, FitsAddr, FitsLoad, Fits, KeepsWhole, IsPacketIn}
use Rattle.pcap_text.specs.declared.capture.Record.{Record}
use Rattle.pcap_text.proofs.Datagrams.{datagram_is, is_datagram, tells}
use Rattle.run_answers.specs.Captured.{line_with, AreLinesOf}

-- ---- what is decided

abbrev IsDecided : Type 0 → Type 0
IsDecided P = P ⊎ (¬ P)

decided_by : {P : Type 0} → (b : Bool) → Decides b P → IsDecided P
decided_by true d = inl (d.0 refl)
decided_by false d = inr (λ p. let e : false ≡ true = d.1 p in absurd cc)

is_same : (n m : ℕ) → IsDecided (n ≡ m)
is_same n m = decided_by (n == m) (Decides-eqb n m)

is_below : (n m : ℕ) → IsDecided (n < m)
is_below n m = elim (cases_lt n m) [ inl lt ↦ inl lt | inr le ↦ inr (λ lt. absurd (omega (arith, lt, le))) ]

is_within : (n m : ℕ) → IsDecided (n ≤ m)
is_within n m = elim (cases_lt m n) [ inl lt ↦ inr (λ le. absurd (omega (arith, lt, le))) | inr le ↦ inl le ]

fits_addr : (a : Addr) → IsDecided (FitsAddr a)
fits_addr a = elim (is_below a.ip.bits (2 ^ 32)) [
  | inr wrong ↦ inr (λ fits. wrong fits.0)
  | inl bits ↦ elim (is_below a.port (2 ^ 16)) [ inr wrong ↦ inr (λ fits. wrong fits.1) | inl port ↦ inl (bits, port) ]
]

fits_load : (load : Load) → IsDecided (FitsLoad load)
fits_load (Udp text) = inl tt
fits_load (Tcp flags seq ack window text) = elim (is_below flags (2 ^ 8)) [
  | inr wrong ↦ inr (λ fits. wrong fits.0)
  | inl a ↦ elim (is_below seq (2 ^ 32)) [
    | inr wrong ↦ inr (λ fits. wrong fits.1)
    | inl b ↦ elim (is_below ack (2 ^ 32)) [
      | inr wrong ↦ inr (λ fits. wrong fits.2)
      | inl c ↦ elim (is_below window (2 ^ 16)) [ inr wrong ↦ inr (λ fits. wrong fits.3) | inl d ↦ inl (a, b, c, d) ]
    ]
  ]
]

fits_packet : (p : Packet) → IsDecided (Fits p)
fits_packet p = elim (fits_addr p.from) [
  | inr wrong ↦ inr (λ fits. wrong fits.from)
  | inl from ↦ elim (fits_addr p.to) [
    | inr wrong ↦ inr (λ fits. wrong fits.to)
    | inl to ↦ elim (fits_load p.load) [ inr wrong ↦ inr (λ fits. wrong fits.load) | inl load ↦ inl (record { from = from; to = to; load = load }) ]
  ]
]

is_datagram_of : (p : Packet) (bytes : List ℕ) → IsDecided (datagram p ≡ Some bytes)
is_datagram_of p bytes = elim (is_within (packet_size p) longest) [
  | inr wrong ↦ inr (λ e. wrong (datagram_is p bytes e).size)
  | inl size ↦ elim (decided_by (bytes_eq (datagram_bytes p) bytes) (bytes_eq-Decides (datagram_bytes p) bytes)) [
    | inr wrong ↦ inr (λ e. wrong (datagram_is p bytes e).same)
    | inl same ↦ inl (is_datagram p bytes size same)
  ]
]

keeps_whole : (r : Record) (p : Packet) → IsDecided (KeepsWhole r p)
keeps_whole r p = elim (is_same (length r.kept) r.whole) [
  | inr wrong ↦ inr (λ keeps. wrong keeps.whole)
  | inl whole ↦ elim (fits_packet p) [
    | inr wrong ↦ inr (λ keeps. wrong keeps.fits)
    | inl fits ↦ elim (is_datagram_of p r.kept) [ inr wrong ↦ inr (λ keeps. wrong keeps.datagram_is) | inl same ↦ inl (record { whole = whole; fits = fits; datagram_is = same }) ]
  ]
]

-- ---- the packet in a record

abbrev HasPacketIn : Record → Type 0
HasPacketIn r = (found : Option Packet) × IsPacketIn r found

-- it is what the fields of the bytes tell, or nothing
told : (r : Record) (p : Packet) → KeepsWhole r p → fields r.kept ≡ Some p
told r p keeps = tells p r.kept keeps.fits keeps.datagram_is

other_than : (r : Record) (a p : Packet) → fields r.kept ≡ Some a → ¬ (KeepsWhole r a) → KeepsWhole r p → ⊥
other_than r a p e wrong keeps =
    let of_p : fields r.kept ≡ Some p = told r p keeps in
    let same : p ≡ a = cc in
    wrong (subst (λ (x : Packet). KeepsWhole r x) same keeps)

none_told : (r : Record) (p : Packet) → fields r.kept ≡ None → KeepsWhole r p → ⊥
none_told r p e keeps = let of_p : fields r.kept ≡ Some p = told r p keeps in absurd cc

packet_told : (r : Record) (found : Option Packet) → fields r.kept ≡ found → HasPacketIn r
packet_told r None e = (None, λ p keeps. none_told r p e keeps)
packet_told r (Some a) e = elim (keeps_whole r a) [
  | inl keeps ↦ (Some a, keeps)
  | inr wrong ↦ (None, λ p keeps. other_than r a p e wrong keeps)
]

-- whatever a record holds, bytes or not, it has the one packet or none
pub some_packet : (r : Record) → (found : Option Packet) × IsPacketIn r found
some_packet r = packet_told r (fields r.kept) refl

-- ---- lines

-- the records of each capture have lines
pub some_lines : (records : List Record) → (lines : List ℕ) × AreLinesOf records lines
some_lines [] = ([], refl)
some_lines (r ∷ rs) =
    let found = some_packet r in
    let rest = some_lines rs in
    (line_with r found.0 ++ rest.0, (found.0, rest.0, found.1, rest.1, refl))
