-- what is left where an act on a socket ends
use Rattle.std.proofs.Common.{◌≡◌, ℕ, zero, suc, ◌<◌, ◌≤◌, Bool, true, false, ◌&&◌, ◌||◌, not, nat_lt, List, [], ◌∷◌, ◌++◌, length, take, get_or, set, Option, Some, slice_get, refl, ap, ◌∙◌, arith}
use Rattle.std.proofs.Math.Seq.{take-append_seam}
use Rattle.std.proofs.lemmas.Bool.Decides.{nat_tests}
use Rattle.host_fds.specs.Rises.{no_rises, counted, has_bit, rose}
use Rattle.host_fds.specs.declared.rises.Rises.{Rises}
use Rattle.sock_udp.specs.Socket.{UdpState}
use Rattle.sock_tcp.specs.declared.connection.carried.Carried.{Carried}
use Rattle.host_sockets.specs.declared.glance.Glance.{Glance}
use Rattle.host_sockets.specs.declared.sockets.Sockets.{Sockets}
use Rattle.host_sockets.specs.declared.tcp_sock.TcpSock.{TcpSock}
use Rattle.host_sockets.specs.TcpSocket.{TcpSocket}
use Rattle.host_sockets.specs.Rises.{tcp_glance, slot_glance, risen, rises_at, moved_at}
use Rattle.host_sockets.specs.StandsFor.{SocketStands}

-- another TCP socket at a place, whose rises have moved on, and what is kept of records that are gone
pub record ActEnds (c c' : Sockets) (k : ℕ) (before : Glance) (new : TcpSock) (kept : List Carried) : Type 0 where
  pub own : c'.own ≡ c.own
  pub udp : c'.udp.slots.items ≡ c.udp.slots.items
  pub tcp : c'.tcp.items ≡ set c.tcp.items k new
  pub udp_risen : c'.udp_risen.items ≡ c.udp_risen.items
  pub tcp_risen : (s : TcpSocket) → SocketStands new s → c'.tcp_risen.items ≡ moved_at k before (tcp_glance s) c.tcp_risen.items
  pub gone : c'.gone.items ≡ kept

-- the same of a UDP socket
pub record UdpActEnds (c c' : Sockets) (k : ℕ) (before : Glance) (new : Option UdpState) : Type 0 where
  pub own : c'.own ≡ c.own
  pub udp : c'.udp.slots.items ≡ set c.udp.slots.items k new
  pub tcp : c'.tcp.items ≡ c.tcp.items
  pub udp_risen : c'.udp_risen.items ≡ moved_at k before (slot_glance new) c.udp_risen.items
  pub tcp_risen : c'.tcp_risen.items ≡ c.tcp_risen.items
  pub gone : c'.gone.items ≡ c.gone.items

-- reading and writing at a place of a list
pub read_there : {A : Type 0} (xs : List A) (k : ℕ) (x d : A) → slice_get xs k ≡ Some x → get_or xs k d ≡ x
read_there [] k x d e = cc
read_there (y ∷ xs) zero x d e = cc
read_there (y ∷ xs) (suc k) x d e = read_there xs k x d e

pub set_past : {A : Type 0} (xs : List A) (k : ℕ) (x : A) → length xs ≤ k → set xs k x ≡ xs
set_past [] k x b = refl
set_past (y ∷ xs) zero x b = absurd (omega arith)
set_past (y ∷ xs) (suc k) x b = ap (λ (ys : List _). y ∷ ys) (set_past xs k x (omega arith))

pub rises_past : (kept : List Rises) (k : ℕ) → length kept ≤ k → rises_at k kept ≡ no_rises
rises_past [] k b = refl
rises_past (r ∷ kept) zero b = absurd (omega arith)
rises_past (r ∷ kept) (suc k) b = rises_past kept k (omega arith)

-- a list of which each place was lent
pub all_lent : (n : ℕ) (kept behind : List Rises) → n ≡ length kept → take n (kept ++ behind) ≡ kept
all_lent n kept behind e = ap (λ (m : ℕ). take m (kept ++ behind)) e ∙ take-append_seam kept behind

set_there : {A : Type 0} (xs : List A) (k : ℕ) (x : A) → k < length xs → slice_get (set xs k x) k ≡ Some x
set_there [] k x b = absurd (omega arith)
set_there (y ∷ xs) zero x b = refl
set_there (y ∷ xs) (suc k) x b = set_there xs k x (omega arith)

-- between them the socket has acted, and nothing else has changed
pub act_ends : (c c' : Sockets) (k : ℕ) (before : Glance) (new : TcpSock) (kept : List Carried) → k < length c.tcp.items
    → c'.own ≡ c.own → c'.udp ≡ c.udp → c'.tcp.items ≡ set c.tcp.items k new → c'.udp_risen ≡ c.udp_risen → c'.gone.items ≡ kept
    → ((x : TcpSock) (s : TcpSocket) → slice_get (set c.tcp.items k new) k ≡ Some x → SocketStands x s → c'.tcp_risen.items ≡ moved_at k before (tcp_glance s) c.tcp_risen.items)
    → ActEnds c c' k before new kept
act_ends c c' k before new kept b own udp tcp risen gone moves = record {
  own = own;
  udp = ap (λ v. v.slots.items) udp;
  tcp = tcp;
  udp_risen = ap (λ v. v.items) risen;
  tcp_risen = λ s stands. moves new s (set_there c.tcp.items k new b) stands;
  gone = gone;
}

pub udp_act_ends : (c c' : Sockets) (k : ℕ) (before : Glance) (new : Option UdpState) → k < length c.udp.slots.items
    → c'.own ≡ c.own → c'.udp.slots.items ≡ set c.udp.slots.items k new → c'.tcp ≡ c.tcp → c'.tcp_risen ≡ c.tcp_risen → c'.gone ≡ c.gone
    → ((slot : Option UdpState) → slice_get (set c.udp.slots.items k new) k ≡ Some slot → c'.udp_risen.items ≡ moved_at k before (slot_glance slot) c.udp_risen.items)
    → UdpActEnds c c' k before new
udp_act_ends c c' k before new b own udp tcp risen gone moves = record {
  own = own;
  udp = udp;
  tcp = ap (λ v. v.items) tcp;
  udp_risen = moves new (set_there c.udp.slots.items k new b);
  tcp_risen = ap (λ v. v.items) risen;
  gone = ap (λ v. v.items) gone;
}

-- an act after which the same is seen moves nothing on
not_both : (b : Bool) → (b && not b) ≡ false
not_both true = refl
not_both false = refl

not_above : (n : ℕ) → nat_lt n n ≡ false
not_above n = grind (arith, nat_tests)

pub still : (put a b c d e : Bool) (r : Rises) → put ≡ false → a ≡ false → b ≡ false → c ≡ false → d ≡ false → e ≡ false → (let after : Rises = record { input = counted (put || a) r.input; output = counted b r.output; error = counted c r.error; hangup = counted d r.hangup; peer_end = counted e r.peer_end } in after) ≡ r
still put a b c d e r p qa qb qc qd qe = rw (p, qa, qb, qc, qd, qe) refl

pub same_risen : (g : Glance) (r : Rises) → risen g g r ≡ r
same_risen g r =
    still (nat_lt g.waiting g.waiting) (rose 1 g.bits g.bits) (rose 4 g.bits g.bits) (rose 8 g.bits g.bits) (rose 16 g.bits g.bits) (rose 8192 g.bits g.bits) r
    (not_above g.waiting) (not_both (has_bit 1 g.bits)) (not_both (has_bit 4 g.bits)) (not_both (has_bit 8 g.bits)) (not_both (has_bit 16 g.bits)) (not_both (has_bit 8192 g.bits))

pub same_moved : (g : Glance) (kept : List Rises) (k : ℕ) → moved_at k g g kept ≡ kept
same_moved g [] k = refl
same_moved g (r ∷ kept) zero = ap (λ (x : Rises). x ∷ kept) (same_risen g r)
same_moved g (r ∷ kept) (suc k) = ap (λ (rs : List Rises). r ∷ rs) (same_moved g kept k)
