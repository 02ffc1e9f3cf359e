-- The internet checksum (RFC 1071, section 1).
use Rattle.std.specs.Prelude.{◌≡◌, ℕ, ◌+◌, ◌-◌, ◌*◌, ◌<◌, ◌^◌, List, [], ◌∷◌, nat_lt, if◌then◌else◌}

-- the word of 16 bits whose bits are all ones: zero, in ones' complement
abbrev pub all_ones : ℕ
all_ones = 2 ^ 16 - 1

-- the ones' complement sum of two words of 16 bits: what is carried out at the top is added at the bottom
unfoldable pub carried : ℕ → ℕ → ℕ
carried a b = if nat_lt (a + b) (2 ^ 16) then a + b else a + b - all_ones

-- the ones' complement sum of some bytes on top of a sum: each two are a word, the first of them its high byte,
-- and an odd last byte is a word with a low byte of 0
unfoldable pub sum_on : ℕ → List ℕ → ℕ
sum_on sum [] = sum
sum_on sum (high ∷ []) = carried sum (256 * high)
sum_on sum (high ∷ low ∷ rest) = sum_on (carried sum (256 * high + low)) rest

abbrev pub ones_sum : List ℕ → ℕ
ones_sum bytes = sum_on 0 bytes

-- the checksum of some bytes, among which its own field has 0: the ones' complement of their sum
abbrev pub checksum : List ℕ → ℕ
checksum bytes = all_ones - ones_sum bytes

-- bytes with their checksum in its field have the sum of all ones
abbrev pub Verifies : List ℕ → Type 0
Verifies bytes = ones_sum bytes ≡ all_ones

-- ---- wider words (RFC 1071, section 2): the sum comes out the same, folded at the end

-- the ones' complement sum of two words of 64 bits
unfoldable pub carried_wide : ℕ → ℕ → ℕ
carried_wide a b = if nat_lt (a + b) (2 ^ 64) then a + b else a + b - (2 ^ 64 - 1)

-- a sum folded into 16 bits: less by a multiple of all ones, and 0 for 0 alone
pub record Folds (sum folded : ℕ) : Type 0 where
  pub times : ℕ
  pub same : folded + all_ones * times ≡ sum
  pub small : folded < 2 ^ 16
  pub some : 0 < sum → 0 < folded
