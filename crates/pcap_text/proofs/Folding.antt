-- Sums folded into 16 bits, and the sum of four words at once.
use Rattle.std.proofs.Common.{◌≡◌, ℕ, suc, ◌+◌, ◌-◌, ◌*◌, ◌/◌, ◌%◌, ◌^◌, ◌<◌, ◌≤◌, List, [], ◌∷◌, length, get_or, take, drop, refl, sym, ap, subst, ◌∙◌, arith, inl, inr}
use Rattle.std.specs.Int.{w64, from_be_bytes}
use Rattle.std.proofs.lemmas.Bool.{cases_lt, lt-ltb, le-ltb}
use Rattle.pcap_text.specs.Checksum.{carried, carried_wide, sum_on, all_ones, Folds}

some_more : (n m w : ℕ) → (0 < n → 0 < m) → 0 < n + w → 0 < m + w
some_more n m w f some = elim (cases_lt 0 n) [ inl lt ↦ let k : 0 < m = f lt in omega arith | inr le ↦ omega arith ]

-- one word more
pub carried_folds : (n m w : ℕ) → Folds n m → w < 2 ^ 16 → Folds (n + w) (carried m w)
unfolding carried
carried_folds n m w h below = elim (cases_lt (m + w) (2 ^ 16)) [
  | inl lt ↦ rw (lt-ltb (m + w) (2 ^ 16) lt) (record { times = h.times; same = omega (arith, h.same); small = lt; some = some_more n m w h.some })
  | inr le ↦ rw (le-ltb (m + w) (2 ^ 16) le) (record { times = h.times + 1; same = omega (arith, h.same); small = omega (arith, h.small); some = λ some. omega arith })
]

-- a sum folds into one number alone
pub folds_once : (n a b : ℕ) → Folds n a → Folds n b → a ≡ b
folds_once n a b h k = elim (cases_lt 0 n) [
  | inl lt ↦ let p = h.some lt in let q = k.some lt in omega (arith, h.same, h.small, k.same, k.small, p, q)
  | inr le ↦ omega (arith, h.same, k.same)
]

-- the remainder, where all ones stand for 0
pub remainder_folds : (n : ℕ) → 0 < n → Folds n ((n - 1) % all_ones + 1)
remainder_folds n some = record { times = (n - 1) / all_ones; same = omega arith; small = omega arith; some = λ s. omega arith }

pub word_folds : (n : ℕ) → n < 2 ^ 16 → Folds n n
word_folds n small = record { times = 0; same = omega arith; small = small; some = λ some. some }

-- ---- four words at once

-- their places in a wide word are worth 2^48, 2^32, 2^16 and 1, each of them 1 beside a multiple of all ones
abbrev wide : ℕ → ℕ → ℕ → ℕ → ℕ
wide a b c d = a * 2 ^ 48 + b * 2 ^ 32 + c * 2 ^ 16 + d

abbrev wide_times : ℕ → ℕ → ℕ → ℕ
wide_times a b c = a * 4295032833 + b * 65537 + c

wide_is : (a b c d : ℕ) → wide a b c d ≡ a + b + c + d + all_ones * wide_times a b c
wide_is a b c d = omega arith

-- 2^64 - 1 is this multiple of all ones
abbrev top_times : ℕ
top_times = 281479271743489

wide_folds : (n a b c d m : ℕ) → Folds (n + a + b + c + d) m → Folds (carried_wide n (wide a b c d)) m
unfolding carried_wide
wide_folds n a b c d m h = elim (cases_lt (n + wide a b c d) (2 ^ 64)) [
  | inl lt ↦
      rw (lt-ltb (n + wide a b c d) (2 ^ 64) lt) (record { times = h.times + wide_times a b c; same = omega (arith, h.same); small = h.small; some = λ some. h.some (omega arith) })
  | inr le ↦
      let first : 0 < n + a + b + c + d = omega arith in
      let m_some = h.some first in
      rw (le-ltb (n + wide a b c d) (2 ^ 64) le) (record {
        times = h.times + wide_times a b c - top_times;
        same = omega (arith, h.same, h.small, m_some);
        small = h.small;
        some = λ some. m_some;
      })
]

abbrev AreSmall : List ℕ → Type 0
AreSmall bytes = (i : ℕ) → get_or bytes i 0 < 256

-- the sum of what is left, on top of what a wide sum folds into, is the whole sum
pub record IsLeft (sum : ℕ) (bytes : List ℕ) (wide : ℕ) (rest : List ℕ) : Type 0 where
  pub folded : ℕ
  pub folds : Folds wide folded
  pub small : (i : ℕ) → get_or rest i 0 < 256
  pub completes : sum_on folded rest ≡ sum_on sum bytes

pub all_left : (sum wide : ℕ) (bytes : List ℕ) → sum < 2 ^ 16 → AreSmall bytes → wide ≡ sum → IsLeft sum bytes wide bytes
all_left sum wide bytes fits small same =
    record { folded = sum; folds = subst (λ (n : ℕ). Folds n sum) (sym same) (word_folds sum fits); small = small; completes = refl }

word_small : (a b : ℕ) → a < 256 → b < 256 → 256 * a + b < 2 ^ 16
word_small a b p q = omega arith

-- eight bytes fewer are left
fewer_left : (sum : ℕ) (bytes : List ℕ) (n : ℕ) (rest : List ℕ) → 8 ≤ length rest → AreSmall rest → IsLeft sum bytes n rest
    → IsLeft sum bytes (carried_wide n (from_be_bytes w64 (take 8 rest))) (drop 8 rest)
unfolding sum_on
fewer_left sum bytes n [] long small h = absurd (omega arith)
fewer_left sum bytes n (a ∷ []) long small h = absurd (omega arith)
fewer_left sum bytes n (a ∷ b ∷ []) long small h = absurd (omega arith)
fewer_left sum bytes n (a ∷ b ∷ c ∷ []) long small h = absurd (omega arith)
fewer_left sum bytes n (a ∷ b ∷ c ∷ d ∷ []) long small h = absurd (omega arith)
fewer_left sum bytes n (a ∷ b ∷ c ∷ d ∷ e ∷ []) long small h = absurd (omega arith)
fewer_left sum bytes n (a ∷ b ∷ c ∷ d ∷ e ∷ f ∷ []) long small h = absurd (omega arith)
fewer_left sum bytes n (a ∷ b ∷ c ∷ d ∷ e ∷ f ∷ g ∷ []) long small h = absurd (omega arith)
fewer_left sum bytes n (a ∷ b ∷ c ∷ d ∷ e ∷ f ∷ g ∷ i ∷ rest) long small h =
    let w1 = 256 * a + b in
    let w2 = 256 * c + d in
    let w3 = 256 * e + f in
    let w4 = 256 * g + i in
    let m1 = carried h.folded w1 in
    let m2 = carried m1 w2 in
    let m3 = carried m2 w3 in
    let m4 = carried m3 w4 in
    let f1 : Folds (n + w1) m1 = carried_folds n h.folded w1 h.folds (word_small a b (small 0) (small 1)) in
    let f2 : Folds (n + w1 + w2) m2 = carried_folds (n + w1) m1 w2 f1 (word_small c d (small 2) (small 3)) in
    let f3 : Folds (n + w1 + w2 + w3) m3 = carried_folds (n + w1 + w2) m2 w3 f2 (word_small e f (small 4) (small 5)) in
    let f4 : Folds (n + w1 + w2 + w3 + w4) m4 = carried_folds (n + w1 + w2 + w3) m3 w4 f3 (word_small g i (small 6) (small 7)) in
    let same : wide w1 w2 w3 w4 ≡ from_be_bytes w64 (a ∷ b ∷ c ∷ d ∷ e ∷ f ∷ g ∷ i ∷ []) = omega arith in
    record {
      folded = m4;
      folds = subst (λ (v : ℕ). Folds (carried_wide n v) m4) same (wide_folds n w1 w2 w3 w4 m4 f4);
      small = λ j. small (suc (suc (suc (suc (suc (suc (suc (suc j))))))));
      completes = h.completes;
    }

pub next_left : (sum : ℕ) (bytes : List ℕ) (n : ℕ) (rest front after : List ℕ) (word wider : ℕ) → 8 ≤ length rest → IsLeft sum bytes n rest
    → front ≡ take 8 rest → after ≡ drop 8 rest → word ≡ from_be_bytes w64 front → wider ≡ carried_wide n word → IsLeft sum bytes wider after
next_left sum bytes n rest front after word wider long h front_is after_is word_is wider_is =
    let first : word ≡ from_be_bytes w64 (take 8 rest) = word_is ∙ ap (λ (bs : List ℕ). from_be_bytes w64 bs) front_is in
    let is : wider ≡ carried_wide n (from_be_bytes w64 (take 8 rest)) = wider_is ∙ ap (λ (w : ℕ). carried_wide n w) first in
    subst (λ (bs : List ℕ). IsLeft sum bytes wider bs) (sym after_is)
    (subst (λ (w : ℕ). IsLeft sum bytes w (drop 8 rest)) (sym is) (fewer_left sum bytes n rest long h.small h))

-- what is left, summed on top of the folded sum
pub left_summed : (sum : ℕ) (bytes : List ℕ) (n : ℕ) (rest : List ℕ) (folded : ℕ) → IsLeft sum bytes n rest → Folds n folded → sum_on folded rest ≡ sum_on sum bytes
left_summed sum bytes n rest folded h folds =
    ap (λ (m : ℕ). sum_on m rest) (folds_once n folded h.folded folds h.folds) ∙ h.completes
