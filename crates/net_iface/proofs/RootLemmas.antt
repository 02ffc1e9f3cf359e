-- whole square roots
use Rattle.std.proofs.Common.{◌≡◌, ℕ, zero, suc, ◌+◌, ◌*◌, ◌/◌, ◌<◌, ◌≤◌, inl, inr, Bool, true, false, cond, refl, sym, arith}
use Rattle.std.proofs.lemmas.Bool.{cases_lt}
use Rattle.std.proofs.lemmas.Bool.Decides.{nat_tests}
use Rattle.std.proofs.lemmas.Nat.{mul-le}
use Rattle.std.proofs.Math.Nat.{div-le_self}
use Rattle.std.specs.Prelude.{nat_le}
use Rattle.net_iface.specs.Root.{root_below, root}

square_less : (a b : ℕ) → a < b → (a + 1) * (a + 1) ≤ b * b
square_less a b h = mul-le (a + 1) (a + 1) b b (omega arith) (omega arith)

root_step : (k n s : ℕ) → s ≤ suc k → s * s ≤ n → n < (s + 1) * (s + 1) → (s ≤ k → root_below k n ≡ s)
    → (test : Bool) → nat_le (suc k * suc k) n ≡ test → cond test (suc k) (root_below k n) ≡ s
root_step k n s within square greatest rest true e =
    let fits : suc k * suc k ≤ n = grind (arith, nat_tests) in
    elim (cases_lt s (suc k)) [ inl less ↦ absurd (omega (arith, square_less s (suc k) less)) | inr more ↦ omega arith ]
root_step k n s within square greatest rest false e =
    let past : n < suc k * suc k = grind (arith, nat_tests) in
    elim (cases_lt k s) [ inl less ↦ absurd (let same : s ≡ suc k = omega arith in omega (arith, mul-le (suc k) (suc k) s s (omega arith) (omega arith))) | inr within ↦ rest within ]

pub root_below_is : (k n s : ℕ) → s ≤ k → s * s ≤ n → n < (s + 1) * (s + 1) → root_below k n ≡ s
unfolding root_below
root_below_is zero n s within square greatest = omega arith
root_below_is (suc k) n s within square greatest =
    root_step k n s within square greatest (λ h. root_below_is k n s h square greatest) (nat_le (suc k * suc k) n) refl

small : (s n : ℕ) → s * s ≤ n → s ≤ n
small zero n h = omega arith
small (suc s) n h = omega (arith, mul-le 1 (suc s) (suc s) (suc s) (omega arith) (omega arith))

pub root_is : (n s : ℕ) → s * s ≤ n → n < (s + 1) * (s + 1) → s ≡ root n
root_is n s square greatest = sym (root_below_is n n s (small s n square) square greatest)

-- a square that is at most a part of a square is of no greater number
pub small_root : (s count bound : ℕ) → s * s ≤ bound * bound / count → s ≤ bound
small_root s count bound h = elim (cases_lt bound s) [
  | inl less ↦ absurd (omega (arith, square_less bound s less, div-le_self (bound * bound) count))
  | inr within ↦ within
]
