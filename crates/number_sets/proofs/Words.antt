-- the numbers that the bits of words tell
use Rattle.std.proofs.Common.{◌≡◌, ℕ, ◌+◌, ◌*◌, ◌/◌, ◌%◌, ◌<◌, ◌==◌, true, List, get_or, inl, inr, ap, ◌∙◌, arith}
use Rattle.std.specs.Int.{bit_at}
use Rattle.std.proofs.lemmas.Bool.{cases_lt}
use Rattle.std.proofs.lemmas.Nat.Bits.{bit_at_ones}
use Rattle.number_sets.specs.Sets.{has_in}

-- a word without a clear bit has all its numbers
pub word_full : (words : List ℕ) (word : ℕ) → get_or words word 0 ≡ 18446744073709551615 → ((n : ℕ) → n < word * 64 → has_in words n ≡ true) → (n : ℕ) → n < (word + 1) * 64 → has_in words n ≡ true
word_full words word full below n within = elim (cases_lt n (word * 64)) [
  | inl less ↦ below n less
  | inr more ↦
      let at : n / 64 ≡ word = omega arith in
      ap (λ (k : ℕ). bit_at (get_or words k 0) (n % 64) == 1) at ∙ (ap (λ (x : ℕ). bit_at x (n % 64) == 1) full ∙ ap (λ (b : ℕ). b == 1) (bit_at_ones 64 (n % 64) (omega arith)))
]
