-- The bytes of a character that is not ASCII.
use Rattle.std.proofs.Common.{◌≡◌, ℕ, ◌+◌, ◌/◌, ◌%◌, ◌<◌, ◌≤◌, Bool, true, false, cond, ◌&&◌, nat_lt, nat_le, List, [], ◌∷◌, length, le-leb, Option, Some, None, IfSome, option_map, IsUtf8, encode_utf8, refl, arith, leb-true, ltb-true}
use Rattle.std.specs.List.{list_all}
use Rattle.std.proofs.Math.Utf8.{encode}
use Rattle.std.proofs.lemmas.Bool.{and_parts, and_from}
use Rattle.std.proofs.lemmas.Str.{IsUtf8-from_ascii, length-encode, len_utf8_bounds}
use Rattle.std.proofs.lemmas.Str.Ascii.{IsAscii-nil, IsAscii-cons}

pub some_map : {A B : Type 0} (P : A → Type 0) (Q : B → Type 0) (f : A → B) (o : Option A) → ((a : A) → P a → Q (f a)) → IfSome o P → IfSome (option_map f o) Q
some_map P Q f None h k = tt
some_map P Q f (Some a) h k = h a k

pub one_byte : (b : ℕ) → b < 128 → IsUtf8 (b ∷ [])
one_byte b h = IsUtf8-from_ascii (b ∷ []) (IsAscii-cons b [] h IsAscii-nil)

abbrev pub is_high : ℕ → Bool
is_high b = nat_le 128 b

pub encode_high : (c : ℕ) → 128 ≤ c → list_all is_high (encode_utf8 c) ≡ true
unfolding encode
encode_high c h = by (nat_lt c 128) (nat_lt c 2048) (nat_lt c 65536) refl
  where
    is : (b : ℕ) → 128 ≤ b → nat_le 128 b ≡ true
    is b k = le-leb 128 b k

    two : (a b : ℕ) → 128 ≤ a → 128 ≤ b → (nat_le 128 a && (nat_le 128 b && true)) ≡ true
    two a b p q = and_from (nat_le 128 a) _ (is a p) (and_from (nat_le 128 b) true (is b q) refl)

    by : (s t u : Bool) → nat_lt c 128 ≡ s → list_all (λ b. nat_le 128 b) (cond s (c ∷ []) (cond t ((192 + c / 64) ∷ (128 + c % 64) ∷ []) (cond u ((224 + c / 4096) ∷ (128 + c / 64 % 64) ∷ (128 + c % 64) ∷ []) ((240 + c / 262144) ∷ (128 + c / 4096 % 64) ∷ (128 + c / 64 % 64) ∷ (128 + c % 64) ∷ [])))) ≡ true
    by true t u e = absurd (let k = ltb-true c 128 e in omega arith)
    by false true u e = two (192 + c / 64) (128 + c % 64) (omega arith) (omega arith)
    by false false true e = and_from (nat_le 128 (224 + c / 4096)) _ (is (224 + c / 4096) (omega arith)) (two (128 + c / 64 % 64) (128 + c % 64) (omega arith) (omega arith))
    by false false false e = and_from (nat_le 128 (240 + c / 262144)) _ (is (240 + c / 262144) (omega arith)) (and_from (nat_le 128 (128 + c / 4096 % 64)) _ (is (128 + c / 4096 % 64) (omega arith)) (two (128 + c / 64 % 64) (128 + c % 64) (omega arith) (omega arith)))

-- the bytes of a character that isn't ASCII
pub record High (bytes : List ℕ) : Type 0 where
  pub first : ℕ
  pub rest : List ℕ
  pub parts : bytes ≡ first ∷ rest
  pub high : 128 ≤ first

pub length_some : (c : ℕ) → 1 ≤ length (encode_utf8 c)
length_some c = (let e = length-encode c in let k = (len_utf8_bounds c).0 in omega (arith, e, k))

pub high_of : (bytes : List ℕ) → 1 ≤ length bytes → list_all is_high bytes ≡ true → High bytes
high_of [] h k = absurd (omega (arith, h))
high_of (b ∷ bytes) h k = record { first = b; rest = bytes; parts = refl; high = leb-true 128 b (and_parts (nat_le 128 b) _ k).0 }
