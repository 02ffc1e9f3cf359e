-- the socket that takes a datagram is found by its end
use Rattle.std.proofs.Common.{◌≡◌, ℕ, zero, suc, ◌<◌, ◌⊎◌, inl, inr, List, [], ◌∷◌, length, get_or, min, Bool, true, false, cond, ◌&&◌, ◌||◌, ◌==◌, nat_lt, Option, Some, None, refl, sym, ap, ◌∙◌, arith}
use Rattle.std.specs.List.{position}
use Rattle.std.proofs.lemmas.Bool.{and_parts, or_cases, eqb-true, cases_Bool}
use Rattle.std.proofs.lemmas.Bool.Decides.{nat_tests}
use Rattle.std.proofs.lemmas.List.Sums.{position_or_len_is}
use Rattle.sim_base.specs.declared.address.Addr.{Addr}
use Rattle.sim_base.specs.Addresses.{any, at_port}
use Rattle.sock_udp.specs.Socket.{is_bound_for, is_open_to}
use Rattle.sock_udp.specs.declared.ends.UdpEnds.{UdpEnds}
use Rattle.udp_table.specs.Table.{local_in, takes_in}
use Rattle.udp_table.specs.inside.Indexing.{at_place, earlier}

end_at : ℕ → ℕ → Addr
end_at bits port = record { ip = record { bits = bits }; port = port }

-- who takes what is sent to an end is bound to it or to 0.0.0.0 and its port
bound_so : (at to : Addr) → ((at.port == to.port) && ((at.ip.bits == 0) || (at.ip.bits == to.ip.bits))) ≡ true → (at ≡ at_port any to.port) ⊎ (at ≡ to)
unfolding end_at
bound_so at to e =
    let parts = and_parts (at.port == to.port) ((at.ip.bits == 0) || (at.ip.bits == to.ip.bits)) e in
    let port = eqb-true at.port to.port parts.0 in
    elim (or_cases (at.ip.bits == 0) (at.ip.bits == to.ip.bits) parts.1) as (λ _. (at ≡ at_port any to.port) ⊎ (at ≡ to)) [
      | inl wide ↦ inl (ap (λ (bits : ℕ). end_at bits at.port) (eqb-true at.ip.bits 0 wide) ∙ ap (λ (p : ℕ). end_at 0 p) port)
      | inr same ↦ inr (ap (λ (bits : ℕ). end_at bits at.port) (eqb-true at.ip.bits to.ip.bits same) ∙ ap (λ (p : ℕ). end_at to.ip.bits p) port)
    ]

pub takes_bound : (from to : Addr) (place : Option UdpEnds) → takes_in from to place ≡ true → (local_in place ≡ Some (at_port any to.port)) ⊎ (local_in place ≡ Some to)
takes_bound from to None e = cc
takes_bound from to (Some ends) e = by_local ends.local (and_parts (is_bound_for ends.local to) (is_open_to ends.peer from) e).0
  where
    by_local : (local : Option Addr) → is_bound_for local to ≡ true → (local ≡ Some (at_port any to.port)) ⊎ (local ≡ Some to)
    by_local None e = cc
    by_local (Some at) e = elim (bound_so at to e) as (λ _. (Some at ≡ Some (at_port any to.port)) ⊎ (Some at ≡ Some to)) [
      | inl wide ↦ inl (ap (λ (x : Addr). Some x) wide)
      | inr same ↦ inr (ap (λ (x : Addr). Some x) same)
    ]

-- the first place that passes
first_at : (p : Option UdpEnds → Bool) (places : List (Option UdpEnds)) (k : ℕ) → p None ≡ false → p (at_place places k) ≡ true → ((j : ℕ) → j < k → p (at_place places j) ≡ false) → Some k ≡ position p places
first_at p places k empty here before =
    let b = within places k here in
    let is = position_or_len_is p places k None (omega arith) before (λ less. here) in
    sym (ap (λ (n : ℕ). cond (nat_lt n (length places)) (Some n) None) is ∙ ap (λ (c : Bool). cond c (Some k) None) (lt_test k (length places) b))
  where
    lt_test : (n m : ℕ) → n < m → nat_lt n m ≡ true
    lt_test n m h = grind (arith, nat_tests)

    within : (places : List (Option UdpEnds)) (k : ℕ) → p (get_or places k None) ≡ true → k < length places
    within [] k e = let no : false ≡ true = sym empty ∙ e in cc
    within (x ∷ places) zero e = omega arith
    within (x ∷ places) (suc k) e = let rest = within places k e in omega arith

none_at : (p : Option UdpEnds → Bool) (places : List (Option UdpEnds)) → ((j : ℕ) → p (at_place places j) ≡ false) → None ≡ position p places
none_at p places none =
    let is = position_or_len_is p places (length places) None (omega arith) (λ k less. none k) (λ less. absurd (omega arith)) in
    sym (ap (λ (n : ℕ). cond (nat_lt n (length places)) (Some n) None) is ∙ ap (λ (c : Bool). cond c (Some (length places)) None) (not_less (length places)))
  where
    not_less : (n : ℕ) → nat_lt n n ≡ false
    not_less n = grind (arith, nat_tests)

-- it fails where no place that passes can be
fails : (b : Bool) → (b ≡ true → ⊥) → b ≡ false
fails true never = absurd (never refl)
fails false never = refl

-- the earlier one of two places is the first that passes, where only these can
pub first_of : (p : Option UdpEnds → Bool) (places : List (Option UdpEnds)) (a b : Option ℕ) → p None ≡ false
    → ((k : ℕ) → a ≡ Some k → p (at_place places k) ≡ true) → ((k : ℕ) → b ≡ Some k → p (at_place places k) ≡ true)
    → ((k : ℕ) → p (at_place places k) ≡ true → (a ≡ Some k) ⊎ (b ≡ Some k)) → earlier a b ≡ position p places
first_of p places None None empty one two only = none_at p places (λ j. fails (p (at_place places j)) (λ e. neither j (only j e)))
  where
    neither : (j : ℕ) → (None ≡ Some j) ⊎ (None ≡ Some j) → ⊥
    neither j (inl e) = cc
    neither j (inr e) = cc
first_of p places (Some a) None empty one two only = first_at p places a empty (one a refl) (λ j less. fails (p (at_place places j)) (λ e. not_a j less (only j e)))
  where
    not_a : (j : ℕ) → j < a → (Some a ≡ Some j) ⊎ (None ≡ Some j) → ⊥
    not_a j less (inl e) = let same : a ≡ j = cc in absurd (omega arith)
    not_a j less (inr e) = cc
first_of p places None (Some b) empty one two only = first_at p places b empty (two b refl) (λ j less. fails (p (at_place places j)) (λ e. not_b j less (only j e)))
  where
    not_b : (j : ℕ) → j < b → (None ≡ Some j) ⊎ (Some b ≡ Some j) → ⊥
    not_b j less (inl e) = cc
    not_b j less (inr e) = let same : b ≡ j = cc in absurd (omega arith)
first_of p places (Some a) (Some b) empty one two only =
    first_at p places (min a b) empty (elim (least_is a b) as (λ _. p (at_place places (min a b)) ≡ true) [
      | inl is ↦ ap (λ (n : ℕ). p (at_place places n)) is ∙ one a refl
      | inr is ↦ ap (λ (n : ℕ). p (at_place places n)) is ∙ two b refl
    ]) (λ j less. fails (p (at_place places j)) (λ e. before j less (only j e)))
  where
    least_is : (a b : ℕ) → (min a b ≡ a) ⊎ (min a b ≡ b)
    least_is a b = elim (cases_Bool (nat_lt a b)) as (λ _. (min a b ≡ a) ⊎ (min a b ≡ b)) [ inl e ↦ inl (grind (arith, nat_tests)) | inr e ↦ inr (grind (arith, nat_tests)) ]

    before : (j : ℕ) → j < min a b → (Some a ≡ Some j) ⊎ (Some b ≡ Some j) → ⊥
    before j less (inl e) = let same : a ≡ j = cc in absurd (omega arith)
    before j less (inr e) = let same : b ≡ j = cc in absurd (omega arith)
