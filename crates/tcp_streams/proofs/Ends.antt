-- the ends of a record
use Rattle.std.proofs.Common.{◌≡◌, ℕ, ◌==◌, ◌&&◌, Bool, true, false, refl, sym, ap, ◌∙◌, arith}
use Rattle.std.proofs.lemmas.Bool.Decides.{nat_tests}
use Rattle.sim_base.specs.Addresses.{is_same, is_same_ip}
use Rattle.sim_base.specs.declared.address.Addr.{Addr}
use Rattle.sock_tcp.specs.connection.Tcb.{Tcb}
use Rattle.tcp_streams.specs.Stream.{is_at}

pub and_left : (a b : Bool) → (a && b) ≡ true → a ≡ true
and_left true b e = refl
and_left false b e = cc

pub and_right : (a b : Bool) → (a && b) ≡ true → b ≡ true
and_right true b e = e
and_right false b e = cc

both : (a b : Bool) → a ≡ true → b ≡ true → (a && b) ≡ true
both true b e k = k
both false b e k = cc

pub same_number : (a b : ℕ) → (a == b) ≡ true → a ≡ b
same_number a b e = grind (arith, nat_tests)

same_as_itself : (a : ℕ) → (a == a) ≡ true
same_as_itself a = grind (arith, nat_tests)

abbrev addr_of : ℕ → ℕ → Addr
addr_of bits port = record { ip = record { bits = bits }; port = port }

pub same_end : (a b : Addr) → is_same a b ≡ true → a ≡ b
same_end a b e =
    let i = same_number a.ip.bits b.ip.bits (and_left (is_same_ip a.ip b.ip) (a.port == b.port) e) in
    let p = same_number a.port b.port (and_right (is_same_ip a.ip b.ip) (a.port == b.port) e) in
    ap (λ n. addr_of n a.port) i ∙ ap (λ n. addr_of b.ip.bits n) p

pub is_same_refl : (a : Addr) → is_same a a ≡ true
is_same_refl a =
    both (is_same_ip a.ip a.ip) (a.port == a.port) (same_as_itself a.ip.bits) (same_as_itself a.port)

-- a record is at its own ends alone
pub ends_of : (own other : Addr) (r : Tcb) → is_at own other r ≡ true → (r.control.local ≡ own) × (r.control.peer ≡ other)
ends_of own other r e = (
  same_end r.control.local own (and_left (is_same r.control.local own) (is_same r.control.peer other) e),
  same_end r.control.peer other (and_right (is_same r.control.local own) (is_same r.control.peer other) e),
)

pub is_at_ends : (own other : Addr) (r : Tcb) → r.control.local ≡ own → r.control.peer ≡ other → is_at own other r ≡ true
is_at_ends own other r a b =
    both (is_same r.control.local own) (is_same r.control.peer other)
    (ap (λ x. is_same r.control.local x) (sym a) ∙ is_same_refl r.control.local)
    (ap (λ x. is_same r.control.peer x) (sym b) ∙ is_same_refl r.control.peer)
