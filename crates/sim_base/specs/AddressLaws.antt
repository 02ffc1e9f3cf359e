-- Laws of addresses and ports: a port that is given was free, and a datagram has one taker.
use Rattle.std.specs.Prelude.{◌≡◌, ℕ, zero, suc, ◌==◌, ◌+◌, ◌<◌, ◌≤◌, Bool, true, false, not, List, [], ◌∷◌, Option, Some, None, if◌then◌else◌, refl}
use Rattle.std.specs.List.{list_any}
use Rattle.std.proofs.Common.{inl, inr, sym, ap, subst, ◌∙◌, arith}
use Rattle.std.proofs.lemmas.Bool.{and_left, cases_eq, or_from, or_parts}
use Rattle.std.proofs.lemmas.Bool.Decides.{nat_tests}
use Rattle.sim_base.specs.declared.address.Ip.{Ip}
use Rattle.sim_base.specs.declared.address.Addr.{Addr}
use Rattle.sim_base.specs.Addresses.{meets, has_port, first_free_port, at_port}

-- the least port that no other socket has, of some in a row
pub record IsLeastFree (bound : List Addr) (first count port : ℕ) : Type 0 where
  pub from : first ≤ port
  pub within : port < first + count
  pub free : has_port bound port ≡ false
  pub least : (lower : ℕ) → first ≤ lower → lower < port → has_port bound lower ≡ true

-- each of some ports in a row is had by another socket
abbrev pub AllAreHad : List Addr → ℕ → ℕ → Type 0
AllAreHad bound first count = (port : ℕ) → first ≤ port → port < first + count → has_port bound port ≡ true

-- what is told of the first of some ports in a row that is free
abbrev Told : List Addr → ℕ → ℕ → Option ℕ → Type 0
Told bound first count None = AllAreHad bound first count
Told bound first count (Some port) = IsLeastFree bound first count port

told_later : (bound : List Addr) (first count : ℕ) (found : Option ℕ) → has_port bound first ≡ true → Told bound (first + 1) count found → Told bound first (suc count) found
told_later bound first count None had rest =
    λ port from within. elim (cases_eq first port) [ inl here ↦ ap (has_port bound) (sym here) ∙ had | inr other ↦ rest port (omega arith) (omega arith) ]
told_later bound first count (Some port) had rest = record {
  from = omega arith;
  within = omega arith;
  free = rest.free;
  least = λ lower from below. elim (cases_eq first lower) [ inl here ↦ ap (has_port bound) (sym here) ∙ had | inr other ↦ rest.least lower (omega arith) below ];
}

told_step : (bound : List Addr) (first count : ℕ) (later : Option ℕ) (had : Bool) → has_port bound first ≡ had → Told bound (first + 1) count later
    → Told bound first (suc count) (if not had then Some first else later)
told_step bound first count later true e rest = told_later bound first count later e rest
told_step bound first count later false e rest = record { from = omega arith; within = omega arith; free = e; least = λ lower from below. absurd (omega arith) }

told : (bound : List Addr) (first count : ℕ) → Told bound first count (first_free_port bound first count)
unfolding first_free_port
told bound first zero = λ port from within. absurd (omega arith)
told bound first (suc count) = told_step bound first count _ (has_port bound first) refl (told bound (first + 1) count)

-- a port that is found is the least free one
pub first_free_port_IsLeastFree : (bound : List Addr) (first count port : ℕ) → first_free_port bound first count ≡ Some port → IsLeastFree bound first count port
first_free_port_IsLeastFree bound first count port found = subst (Told bound first count) found (told bound first count)

-- and where none is found, none is free
pub first_free_port_AllAreHad : (bound : List Addr) (first count : ℕ) → first_free_port bound first count ≡ None → AllAreHad bound first count
first_free_port_AllAreHad bound first count none = subst (Told bound first count) none (told bound first count)

not_met : (ip : Ip) (port : ℕ) (other : Addr) → (other.port == port) ≡ false → meets (at_port ip port) other ≡ false
not_met ip port other differs = let apart : (port == other.port) ≡ false = grind (arith, nat_tests) in and_left (port == other.port) _ apart

-- a socket at a port that no other has meets none of them
pub has_port_meets : (ip : Ip) (port : ℕ) (bound : List Addr) → has_port bound port ≡ false → list_any (meets (at_port ip port)) bound ≡ false
has_port_meets ip port [] free = refl
has_port_meets ip port (other ∷ others) free =
    let parts = or_parts _ _ free in
    or_from _ _ (not_met ip port other parts.0) (has_port_meets ip port others parts.1)
