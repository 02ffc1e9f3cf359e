-- what a segment says that is listened to
use Rattle.std.proofs.Common.{◌≡◌, ℕ, ◌+◌, ◌==◌, ◌%◌, ◌^◌, ◌&&◌, nat_le, Bool, true, false, not, refl}
use Rattle.sock_tcp.specs.declared.segment.header.Header.{Header}
use Rattle.sock_tcp.specs.declared.segment.number.Distance.{Distance}
use Rattle.sock_tcp.specs.declared.segment.number.Distance.TheVariants.{Ahead, Behind}
use Rattle.sock_tcp.specs.declared.segment.state.TcpState.{TcpState}
use Rattle.sock_tcp.specs.declared.segment.verdict.Verdict.{Verdict}
use Rattle.sock_tcp.specs.declared.segment.verdict.Verdict.TheVariants.{Acknowledged, Connects, Establishes, Advances, Continues}
use Rattle.sock_tcp.specs.segment.Number.{wire, distance}
use Rattle.sock_tcp.specs.segment.State.{is_over, is_time_wait, is_syn_sent, is_syn_received}
use Rattle.sock_tcp.specs.segment.Verdict.{syn_sent_verdict, reset_verdict, syn_verdict, distance_verdict, ack_verdict, synchronized_verdict, verdict_of}
use Rattle.tcp_laws.proofs.Tests.{by_test}

-- a SYN opens only as such, and a RST never counts for more than a RST
abbrev pub Says : TcpState → Header → Verdict → Type 0
Says state h Connects = (is_syn_sent state ≡ true) × (h.syn ≡ true) × (h.rst ≡ false)
Says state h Establishes = (is_syn_received state ≡ true) × (h.rst ≡ false)
Says state h (Advances by) = h.rst ≡ false
Says state h Continues = h.rst ≡ false
Says state h v = Unit {0}

left : (a b : Bool) → (a && b) ≡ true → a ≡ true
left true b e = refl
left false b e = cc

says_syn_sent : (state : TcpState) (first : ℕ) (h : Header) → is_syn_sent state ≡ true → Says state h (syn_sent_verdict first h)
unfolding syn_sent_verdict
says_syn_sent state first h s =
    by_test (Says state h) (h.has_ack && not (h.ack == first)) _ _
    (λ e. by_test (Says state h) h.rst _ _ (λ k. tt) (λ k. tt))
    (λ e.
    by_test (Says state h) h.rst _ _
    (λ k. by_test (Says state h) h.has_ack _ _ (λ m. tt) (λ m. tt))
    (λ k. by_test (Says state h) (h.syn && h.has_ack) _ _ (λ m. (s, left h.syn h.has_ack m, k)) (λ m. tt)))

says_reset : (state : TcpState) (h : Header) → Says state h (reset_verdict state)
says_reset state h =
    by_test (Says state h) (is_syn_received state) _ _
    (λ e. tt)
    (λ e. by_test (Says state h) (is_time_wait state) _ _ (λ k. tt) (λ k. tt))

says_syn : (state : TcpState) (h : Header) (rcv : ℕ) → Says state h (syn_verdict state rcv h.seq)
says_syn state h rcv =
    by_test (Says state h) (is_syn_received state && ((h.seq + 1) % 2 ^ 32 == rcv)) _ _ (λ e. tt) (λ e. tt)

says_distance : (state : TcpState) (h : Header) (n : ℕ) (d : Distance) → h.rst ≡ false → Says state h (distance_verdict n d)
says_distance state h n (Ahead by) k =
    by_test (Says state h) (nat_le by n) (Advances by) Acknowledged (λ e. k) (λ e. tt)
says_distance state h n (Behind by) k = k

says_ack : (state : TcpState) (h : Header) (n una : ℕ) → h.rst ≡ false → Says state h (ack_verdict state una n h.ack)
says_ack state h n una k =
    by_test (Says state h) (is_syn_received state) _ _
    (λ e. by_test (Says state h) (h.ack == wire una 1) _ _ (λ m. (e, k)) (λ m. tt))
    (λ e. says_distance state h n (distance una h.ack) k)

says_synchronized : (state : TcpState) (n rcv una : ℕ) (h : Header) → Says state h (synchronized_verdict state rcv una n h)
unfolding synchronized_verdict
says_synchronized state n rcv una h =
    by_test (Says state h) h.rst _ _
    (λ e. by_test (Says state h) (h.seq == rcv) _ _ (λ k. says_reset state h) (λ k. tt))
    (λ e.
    by_test (Says state h) h.syn _ _
    (λ k. says_syn state h rcv)
    (λ k. by_test (Says state h) h.has_ack _ _ (λ m. says_ack state h n una e) (λ m. tt)))

pub verdict_says : (state : TcpState) (n rcv una : ℕ) (h : Header) → Says state h (verdict_of state rcv una n h)
unfolding verdict_of
verdict_says state n rcv una h =
    by_test (Says state h) (is_over state) _ _
    (λ o. tt)
    (λ o.
    by_test (Says state h) (is_syn_sent state) _ _
    (λ s. says_syn_sent state (wire una 1) h s)
    (λ s. says_synchronized state n rcv una h))
