-- Bytes with their checksum in its field have the sum FFFF.
use Rattle.std.proofs.Common.{◌≡◌, ℕ, ◌+◌, ◌-◌, ◌*◌, ◌^◌, ◌<◌, ◌≤◌, Bool, true, false, cond, List, [], ◌∷◌, ◌++◌, length, refl, subst, arith}
use Rattle.std.specs.Prelude.{◌==◌}
use Rattle.std.specs.Int.{w16, w32, to_be_bytes}
use Rattle.std.specs.List.{AllByRecursion}
use Rattle.std.proofs.lemmas.Bool.{eqb-true}
use Rattle.sim_base.specs.Packet.{packet_size, load_size, udp_header}
use Rattle.sim_base.specs.declared.address.Addr.{Addr}
use Rattle.sim_base.specs.declared.packet.Load.{Load}
use Rattle.sim_base.specs.declared.packet.Load.TheVariants.{Udp, Tcp}
use Rattle.sim_base.specs.declared.packet.Packet.{Packet}
use Rattle.pcap_text.specs.Checksum.{carried, sum_on, ones_sum, checksum, Verifies, all_ones, Folds}
use Rattle.pcap_text.specs.Datagram.{protocol, ip_header, segment, pseudo_header, udp_sent, ip_check, segment_check, datagram_bytes, longest}
use Rattle.pcap_text.specs.Laws.{IsByte, IsText, IsWhole, ChecksumsVerify}
use Rattle.pcap_text.specs.Packets.{FitsLoad}
use Rattle.pcap_text.proofs.Folding.{carried_folds}

abbrev AreBytes : List ℕ → Type 0
AreBytes bytes = AllByRecursion IsByte bytes

-- the words of some bytes, added up without a carry
total : List ℕ → ℕ
total [] = 0
total (high ∷ []) = 256 * high
total (high ∷ low ∷ rest) = 256 * high + low + total rest

sum_folds : (bytes : List ℕ) (n m : ℕ) → AreBytes bytes → Folds n m → Folds (n + total bytes) (sum_on m bytes)
unfolding sum_on total
sum_folds [] n m b h =
    let same : n ≡ n + 0 = omega arith in
    subst (λ (k : ℕ). Folds k m) same h
sum_folds (high ∷ []) n m b h = carried_folds n m (256 * high) h (omega (arith, b.0))
sum_folds (high ∷ low ∷ rest) n m b h =
    let step = carried_folds n m (256 * high + low) h (omega (arith, b.0, b.1.0)) in
    let same : n + (256 * high + low) + total rest ≡ n + (256 * high + low + total rest) = omega arith in
    subst (λ (k : ℕ). Folds k (sum_on (carried m (256 * high + low)) rest)) same (sum_folds rest (n + (256 * high + low)) (carried m (256 * high + low)) b.1.1 step)

ones_folds : (bytes : List ℕ) → AreBytes bytes → Folds (total bytes) (ones_sum bytes)
ones_folds bytes b =
    let none : Folds 0 0 = record { times = 0; same = refl; small = omega arith; some = λ h. h } in
    let same : 0 + total bytes ≡ total bytes = omega arith in
    subst (λ (k : ℕ). Folds k (ones_sum bytes)) same (sum_folds bytes 0 0 b none)

-- with the ones' complement added the sum is FFFF
full : (sum s v : ℕ) → Folds sum s → Folds (sum + (all_ones - s)) v → v ≡ all_ones
full sum s v h k = omega (arith, h.same, h.small, h.some, k.same, k.small, k.some)

full_again : (sum s v : ℕ) → Folds sum s → Folds (sum + udp_sent (all_ones - s)) v → v ≡ all_ones
full_again sum s v h k = go ((all_ones - s) == 0) refl k
  where
    go : (b : Bool) → ((all_ones - s) == 0) ≡ b → Folds (sum + cond b all_ones (all_ones - s)) v → v ≡ all_ones
    go true e f =
        let none : all_ones - s ≡ 0 = eqb-true (all_ones - s) 0 e in
        omega (arith, none, h.same, h.small, f.same, f.small, f.some)
    go false e f = full sum s v h f

sent_fits : (s : ℕ) → udp_sent (all_ones - s) < 2 ^ 16
sent_fits s = go ((all_ones - s) == 0)
  where
    go : (b : Bool) → cond b all_ones (all_ones - s) < 2 ^ 16
    go true = omega arith
    go false = omega arith

-- ---- a checksum in its field

is_even : List ℕ → Bool
is_even [] = true
is_even (a ∷ []) = false
is_even (a ∷ b ∷ rest) = is_even rest

behind_words : (front rest other : List ℕ) (n : ℕ) → is_even front ≡ true → total rest ≡ total other + n → total (front ++ rest) ≡ total (front ++ other) + n
unfolding is_even total
behind_words [] rest other n even e = e
behind_words (a ∷ []) rest other n even e = absurd cc
behind_words (a ∷ b ∷ front) rest other n even e = omega (arith, behind_words front rest other n even e)

with_field : (check : ℕ) (rest : List ℕ) → check < 2 ^ 16 → total (to_be_bytes w16 check ++ rest) ≡ total (to_be_bytes w16 0 ++ rest) + check
unfolding total
with_field check rest below = omega arith

-- ---- headers are bytes

both : (xs ys : List ℕ) → AreBytes xs → AreBytes ys → AreBytes (xs ++ ys)
both [] ys p q = q
both (x ∷ xs) ys p q = (p.0, both xs ys p.1 q)

be16 : (n : ℕ) → AreBytes (to_be_bytes w16 n)
be16 n = (omega arith, (omega arith, tt))

be32 : (n : ℕ) → AreBytes (to_be_bytes w32 n)
be32 n = (omega arith, (omega arith, (omega arith, (omega arith, tt))))

protocol_byte : (load : Load) → IsByte (protocol load)
protocol_byte (Udp text) = omega arith
protocol_byte (Tcp flags seq ack window text) = omega arith

-- two lists of 16 bits
ports : (from to : ℕ) → AreBytes (to_be_bytes w16 from ++ to_be_bytes w16 to)
ports from to = both (to_be_bytes w16 from) (to_be_bytes w16 to) (be16 from) (be16 to)

addresses_are_bytes : (p : Packet) → AreBytes (to_be_bytes w32 p.from.ip.bits ++ to_be_bytes w32 p.to.ip.bits)
addresses_are_bytes p = both (to_be_bytes w32 p.from.ip.bits) (to_be_bytes w32 p.to.ip.bits) (be32 p.from.ip.bits) (be32 p.to.ip.bits)

-- an IPv4 header up to its checksum
abbrev ip_start : Packet → List ℕ
ip_start p = 0x45 ∷ 0 ∷ (to_be_bytes w16 (packet_size p) ++ (0 ∷ 0 ∷ 0x40 ∷ 0 ∷ 64 ∷ protocol p.load ∷ []))

ip_start_are_bytes : (p : Packet) → AreBytes (ip_start p)
ip_start_are_bytes p = (
  omega arith,
  (
    omega arith,
    both (to_be_bytes w16 (packet_size p)) (0 ∷ 0 ∷ 0x40 ∷ 0 ∷ 64 ∷ protocol p.load ∷ []) (be16 (packet_size p))
        (omega arith, (omega arith, (omega arith, (omega arith, (omega arith, (protocol_byte p.load, tt)))))),
  ),
)

pseudo_are_bytes : (p : Packet) → AreBytes (pseudo_header p)
pseudo_are_bytes p = both (to_be_bytes w32 p.from.ip.bits ++ to_be_bytes w32 p.to.ip.bits) (0 ∷ protocol p.load ∷ to_be_bytes w16 (load_size p.load)) (addresses_are_bytes p)
    (omega arith, (protocol_byte p.load, be16 (load_size p.load)))

-- ---- bytes with a checksum between words and others

abbrev checked : List ℕ → ℕ → List ℕ → List ℕ
checked front check rest = front ++ (to_be_bytes w16 check ++ rest)

checked_total : (front rest : List ℕ) (check : ℕ) → is_even front ≡ true → check < 2 ^ 16 → total (checked front check rest) ≡ total (checked front 0 rest) + check
checked_total front rest check even below = behind_words front (to_be_bytes w16 check ++ rest) (to_be_bytes w16 0 ++ rest) check even (with_field check rest below)

checked_folds : (front rest : List ℕ) (check : ℕ) → AreBytes front → AreBytes rest → Folds (total (checked front check rest)) (ones_sum (checked front check rest))
checked_folds front rest check p q = ones_folds (checked front check rest) (both front (to_be_bytes w16 check ++ rest) p (both (to_be_bytes w16 check) rest (be16 check) q))

checked_verifies : (front rest : List ℕ) → is_even front ≡ true → AreBytes front → AreBytes rest → Verifies (checked front (checksum (checked front 0 rest)) rest)
checked_verifies front rest even p q =
    let check = checksum (checked front 0 rest) in
    let same = checked_total front rest check even (omega arith) in
    full (total (checked front 0 rest)) (ones_sum (checked front 0 rest)) (ones_sum (checked front check rest)) (checked_folds front rest 0 p q)
    (subst (λ (k : ℕ). Folds k (ones_sum (checked front check rest))) same (checked_folds front rest check p q))

sent_verifies : (front rest : List ℕ) → is_even front ≡ true → AreBytes front → AreBytes rest → Verifies (checked front (udp_sent (checksum (checked front 0 rest))) rest)
sent_verifies front rest even p q =
    let check = udp_sent (checksum (checked front 0 rest)) in
    let same = checked_total front rest check even (sent_fits (ones_sum (checked front 0 rest))) in
    full_again (total (checked front 0 rest)) (ones_sum (checked front 0 rest)) (ones_sum (checked front check rest)) (checked_folds front rest 0 p q)
    (subst (λ (k : ℕ). Folds k (ones_sum (checked front check rest))) same (checked_folds front rest check p q))

-- ---- datagrams

ip_verifies : (p : Packet) → Verifies (ip_header (ip_check p) p)
unfolding is_even
ip_verifies p = checked_verifies (ip_start p) (to_be_bytes w32 p.from.ip.bits ++ to_be_bytes w32 p.to.ip.bits) refl (ip_start_are_bytes p) (addresses_are_bytes p)

abbrev made : Addr → Addr → Load → Packet
made from to load = record { from = from; to = to; load = load }

-- what stands before the checksum of UDP and of TCP, with the pseudo header
abbrev udp_start : Addr → Addr → List ℕ → List ℕ
udp_start from to text = pseudo_header (made from to (Udp text)) ++ ((to_be_bytes w16 from.port ++ to_be_bytes w16 to.port) ++ to_be_bytes w16 (udp_header + length text))

abbrev tcp_words : ℕ → ℕ → ℕ → ℕ → List ℕ
tcp_words flags seq ack window = to_be_bytes w32 seq ++ (to_be_bytes w32 ack ++ (0x50 ∷ flags ∷ to_be_bytes w16 window))

abbrev tcp_start : Addr → Addr → ℕ → ℕ → ℕ → ℕ → List ℕ → List ℕ
tcp_start from to flags seq ack window text =
    pseudo_header (made from to (Tcp flags seq ack window text)) ++ ((to_be_bytes w16 from.port ++ to_be_bytes w16 to.port) ++ tcp_words flags seq ack window)

tcp_words_are_bytes : (flags seq ack window : ℕ) → flags < 2 ^ 8 → AreBytes (tcp_words flags seq ack window)
tcp_words_are_bytes flags seq ack window fits =
    both (to_be_bytes w32 seq) (to_be_bytes w32 ack ++ (0x50 ∷ flags ∷ to_be_bytes w16 window)) (be32 seq)
    (both (to_be_bytes w32 ack) (0x50 ∷ flags ∷ to_be_bytes w16 window) (be32 ack) (omega arith, (omega arith, be16 window)))

transport_verifies : (from to : Addr) (load : Load) → FitsLoad load → IsText load
    → Verifies (pseudo_header (made from to load) ++ segment (segment_check (made from to load)) (made from to load))
unfolding is_even
transport_verifies from to (Udp text) f t =
    sent_verifies (udp_start from to text) text refl
    (both (pseudo_header (made from to (Udp text))) ((to_be_bytes w16 from.port ++ to_be_bytes w16 to.port) ++ to_be_bytes w16 (udp_header + length text)) (pseudo_are_bytes (made from to (Udp text)))
    (both (to_be_bytes w16 from.port ++ to_be_bytes w16 to.port) (to_be_bytes w16 (udp_header + length text)) (ports from.port to.port) (be16 (udp_header + length text))))
    t
transport_verifies from to (Tcp flags seq ack window text) f t =
    checked_verifies (tcp_start from to flags seq ack window text) (0 ∷ 0 ∷ text) refl
    (both (pseudo_header (made from to (Tcp flags seq ack window text))) ((to_be_bytes w16 from.port ++ to_be_bytes w16 to.port) ++ tcp_words flags seq ack window) (pseudo_are_bytes (made from to (Tcp flags seq ack window text)))
    (both (to_be_bytes w16 from.port ++ to_be_bytes w16 to.port) (tcp_words flags seq ack window) (ports from.port to.port) (tcp_words_are_bytes flags seq ack window f.0)))
    (omega arith, (omega arith, t))

pub verify : (p : Packet) → IsWhole p → packet_size p ≤ longest → ChecksumsVerify p
unfolding datagram_bytes
verify p h size = record {
  network = ip_verifies p;
  transport = transport_verifies p.from p.to p.load h.fits.load h.text;
}
