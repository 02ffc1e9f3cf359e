-- The walk over addresses: it has room, and what it has found so far goes on.
use Rattle.std.proofs.Common.{◌≡◌, ℕ, ◌+◌, ◌*◌, ◌%◌, ◌≤◌, Bool, true, false, not, ◌&&◌, ◌||◌, ◌==◌, cond, List, [], ◌∷◌, length, Option, Some, None, ◌⊎◌, refl, subst, arith, rules, inl, inr}
use Rattle.std.specs.Prelude.{nat_le, if◌then◌else◌}
use Rattle.std.proofs.lemmas.List.Sums.{sum_by-cons, count_by-le-length}
use Rattle.sim_base.specs.Addresses.{has_host}
use Rattle.sim_base.specs.declared.address.Ip.{Ip}
use Rattle.run_plan.specs.Addresses.{is_open, given_addresses, AreAddressesFrom}
use Rattle.run_plan.specs.inside.Room.{count_from, NextAddress}

-- ---- room

one_less : (n bits : ℕ) → cond (nat_le (n + 1) bits) 1 0 ≤ cond (nat_le n bits) 1 0
one_less n bits = grind arith

one_drops : (n bits : ℕ) → n ≡ bits → cond (nat_le (n + 1) bits) 1 0 + 1 ≤ cond (nat_le n bits) 1 0
one_drops n bits e = grind arith

count_cons : (ip : Ip) (rest : List Ip) (n : ℕ) → count_from (ip ∷ rest) n ≡ cond (nat_le n ip.bits) 1 0 + count_from rest n
count_cons ip rest n = sum_by-cons (λ (other : Ip). cond (nat_le n other.bits) 1 0) ip rest

pub count_less : (given : List Ip) (n : ℕ) → count_from given (n + 1) ≤ count_from given n
count_less [] n = omega arith
count_less (ip ∷ rest) n = omega (arith, count_cons ip rest n, count_cons ip rest (n + 1), one_less n ip.bits, count_less rest n)

first_or_rest : (ip : Ip) (rest : List Ip) (n : ℕ) (t : Bool) → (n == ip.bits) ≡ t → (t || has_host rest (record { bits = n })) ≡ true
    → count_from rest (n + 1) ≤ count_from rest n → (has_host rest (record { bits = n }) ≡ true → count_from rest (n + 1) + 1 ≤ count_from rest n)
    → count_from (ip ∷ rest) (n + 1) + 1 ≤ count_from (ip ∷ rest) n
first_or_rest ip rest n true same e less drops = let at : n ≡ ip.bits = grind arith in omega (arith, count_cons ip rest n, count_cons ip rest (n + 1), one_drops n ip.bits at, less)
first_or_rest ip rest n false same e less drops = omega (arith, count_cons ip rest n, count_cons ip rest (n + 1), one_less n ip.bits, drops e)

count_drops : (given : List Ip) (n : ℕ) → has_host given (record { bits = n }) ≡ true → count_from given (n + 1) + 1 ≤ count_from given n
count_drops [] n e = cc
count_drops (ip ∷ rest) n e = first_or_rest ip rest n (n == ip.bits) refl e (count_less rest n) (count_drops rest n)

-- how many steps the walk takes from here to the next last byte that is neither 0 nor 255
abbrev pub passed_over : ℕ → ℕ
passed_over n = if n % 256 == 255 then 2 else (if n % 256 == 0 then 1 else 0)

pub passed_small : (n : ℕ) → passed_over n ≤ 2
passed_small n = grind arith

passed_zero : (n : ℕ) → n % 256 ≡ 0 → passed_over (n + 1) + 1 ≤ passed_over n
passed_zero n e = let next : (n + 1) % 256 ≡ 1 = omega arith in rw (next, e) (search rules)

passed_last : (n : ℕ) → n % 256 ≡ 255 → passed_over (n + 1) + 1 ≤ passed_over n
passed_last n e = let next : (n + 1) % 256 ≡ 0 = omega arith in rw (next, e) (search rules)

closed_cases : (a b c : Bool) → (not a && (not b && not c)) ≡ false → (a ≡ true) ⊎ ((b ≡ true) ⊎ (c ≡ true))
closed_cases true b c e = inl refl
closed_cases false true c e = inr (inl refl)
closed_cases false false true e = inr (inr refl)
closed_cases false false false e = cc

pub step_has_room : (given : List Ip) (n : ℕ) → is_open given n ≡ false
    → n + 1 + 3 * count_from given (n + 1) + passed_over (n + 1) ≤ n + 3 * count_from given n + passed_over n
step_has_room given n e = elim (closed_cases (n % 256 == 0) (n % 256 == 255) (has_host given (record { bits = n })) e) [
  | inl zero_ ↦ (let z : n % 256 ≡ 0 = grind arith in omega (arith, count_less given n, passed_zero n z))
  | inr (inl last) ↦ (let z : n % 256 ≡ 255 = grind arith in omega (arith, count_less given n, passed_last n z))
  | inr (inr held) ↦ omega (arith, count_drops given n held, passed_small (n + 1))
]

-- ---- going on

-- the address of one more host
pub one_more : (given : List Ip) (from next : ℕ) (host : Option Ip) (address : Ip) (hosts : List (Option Ip)) (rest : List Ip)
    → NextAddress given from next host address → AreAddressesFrom given next hosts rest → AreAddressesFrom given from (host ∷ hosts) (address ∷ rest)
one_more given from next None address hosts rest h more = (h.0, subst (λ (n : ℕ). AreAddressesFrom given n hosts rest) h.1 more)
one_more given from next (Some ip) address hosts rest h more = (h.0, subst (λ (n : ℕ). AreAddressesFrom given n hosts rest) h.1 more)

-- at most one for each host
given_within : (hosts : List (Option Ip)) → length (given_addresses hosts) ≤ length hosts
given_within [] = omega arith
given_within (None ∷ hosts) = let more = given_within hosts in omega (arith, more)
given_within (Some ip ∷ hosts) = let more = given_within hosts in omega (arith, more)

pub few_given : (hosts : List (Option Ip)) (given : List Ip) → given ≡ given_addresses hosts → length given ≤ length hosts
few_given hosts given e = rw e (given_within hosts)

pub few_from : (given : List Ip) (n : ℕ) → count_from given n ≤ length given
few_from given n = count_by-le-length (λ (ip : Ip). nat_le n ip.bits) given
