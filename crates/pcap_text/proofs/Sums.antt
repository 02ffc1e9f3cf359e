-- The ones' complement sum, word by word and piece by piece.
use Rattle.std.proofs.Common.{◌≡◌, ℕ, ◌+◌, ◌-◌, ◌*◌, ◌≤◌, List, [], ◌∷◌, ◌++◌, length, get_or, drop, refl, sym, ap, ◌∙◌, arith}
use Rattle.sim_base.specs.declared.packet.Load.{Load}
use Rattle.sim_base.specs.declared.packet.Load.TheVariants.{Udp, Tcp}
use Rattle.sim_base.specs.declared.packet.Packet.{Packet}
use Rattle.pcap_text.specs.Checksum.{carried, sum_on, checksum, all_ones}
use Rattle.pcap_text.specs.Datagram.{udp_front, tcp_front, pseudo_header, segment_of, segment_check, udp_sent, sent}

-- a whole word at the front
pub sum_on_word : (sum : ℕ) (bytes : List ℕ) → 2 ≤ length bytes → sum_on sum bytes ≡ sum_on (carried sum (256 * get_or bytes 0 0 + get_or bytes 1 0)) (drop 2 bytes)
unfolding sum_on
sum_on_word sum [] long = absurd (omega arith)
sum_on_word sum (a ∷ []) long = absurd (omega arith)
sum_on_word sum (a ∷ b ∷ rest) long = refl

pub sum_on_none : (sum : ℕ) (bytes : List ℕ) → length bytes ≡ 0 → sum_on sum bytes ≡ sum
unfolding sum_on
sum_on_none sum [] none = refl
sum_on_none sum (a ∷ rest) none = absurd (omega arith)

-- an odd last byte
pub sum_on_last : (sum : ℕ) (bytes : List ℕ) → length bytes ≡ 1 → sum_on sum bytes ≡ carried sum (256 * get_or bytes 0 0)
unfolding sum_on
sum_on_last sum [] one = absurd (omega arith)
sum_on_last sum (a ∷ []) one = refl
sum_on_last sum (a ∷ b ∷ rest) one = absurd (omega arith)

pub ruleset sum_on_steps = (sum_on_word, sum_on_none, sum_on_last)

-- the sum of several pieces is that of all of them, where the first ones are whole words
after_pseudo_header : (sum : ℕ) (p : Packet) (rest : List ℕ) → sum_on (sum_on sum (pseudo_header p)) rest ≡ sum_on sum (pseudo_header p ++ rest)
unfolding sum_on
after_pseudo_header sum p rest = refl

after_udp : (sum check from to : ℕ) (text : List ℕ) → sum_on (sum_on sum (udp_front check from to text)) text ≡ sum_on sum (udp_front check from to text ++ text)
unfolding sum_on
after_udp sum check from to text = refl

after_tcp : (sum check from to flags seq ack window : ℕ) (text : List ℕ)
    → sum_on (sum_on sum (tcp_front check from to flags seq ack window)) text ≡ sum_on sum (tcp_front check from to flags seq ack window ++ text)
unfolding sum_on
after_tcp sum check from to flags seq ack window text = refl

abbrev with_load : Packet → Load → ℕ
with_load p load = sent load (checksum (pseudo_header p ++ segment_of 0 p.from.port p.to.port load))

-- the checksum of UDP and of TCP, summed piece by piece
pub udp_checked : (p : Packet) (text : List ℕ) (s t u : ℕ) → p.load ≡ Udp text → s ≡ sum_on 0 (pseudo_header p)
    → t ≡ sum_on s (udp_front 0 p.from.port p.to.port text) → u ≡ sum_on t text → udp_sent (all_ones - u) ≡ segment_check p
udp_checked p text s t u e pseudo front rest =
    let whole : u ≡ sum_on 0 (pseudo_header p ++ (udp_front 0 p.from.port p.to.port text ++ text)) =
    rest ∙ ap (λ (n : ℕ). sum_on n text) front ∙ after_udp s 0 p.from.port p.to.port text
    ∙ ap (λ (n : ℕ). sum_on n (udp_front 0 p.from.port p.to.port text ++ text)) pseudo ∙ after_pseudo_header 0 p (udp_front 0 p.from.port p.to.port text ++ text) in
    ap (λ (n : ℕ). udp_sent (all_ones - n)) whole ∙ ap (with_load p) (sym e)

pub tcp_checked : (p : Packet) (flags seq ack window : ℕ) (text : List ℕ) (s t u : ℕ) → p.load ≡ Tcp flags seq ack window text → s ≡ sum_on 0 (pseudo_header p)
    → t ≡ sum_on s (tcp_front 0 p.from.port p.to.port flags seq ack window) → u ≡ sum_on t text → all_ones - u ≡ segment_check p
tcp_checked p flags seq ack window text s t u e pseudo front rest =
    let whole : u ≡ sum_on 0 (pseudo_header p ++ (tcp_front 0 p.from.port p.to.port flags seq ack window ++ text)) =
    rest ∙ ap (λ (n : ℕ). sum_on n text) front ∙ after_tcp s 0 p.from.port p.to.port flags seq ack window text
    ∙ ap (λ (n : ℕ). sum_on n (tcp_front 0 p.from.port p.to.port flags seq ack window ++ text)) pseudo
    ∙ after_pseudo_header 0 p (tcp_front 0 p.from.port p.to.port flags seq ack window ++ text) in
    ap (λ (n : ℕ). all_ones - n) whole ∙ ap (with_load p) (sym e)
