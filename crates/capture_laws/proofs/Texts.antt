-- texts are of bytes
use Rattle.std.proofs.Common.{List, [], arith, decimal, encode_utf8_all, mod-lt, nat_lt, subst, suc, true, ℕ, ⊎_elim, ◌%◌, ◌*◌, ◌+◌, ◌/◌, ◌<◌, ◌^◌, ◌∷◌, ◌≡◌, ◌≤◌}
use Rattle.std.proofs.Math.Utf8.{scalar, scalar_cases, scalars}
use Rattle.std.proofs.lemmas.Bool.{and_parts}
use Rattle.std.proofs.lemmas.Bool.Decides.{nat_tests}
use Rattle.std.proofs.lemmas.Fmt.{IsAscii-decimal}
use Rattle.std.proofs.lemmas.Nat.{div_below}
use Rattle.std.specs.Char.{encode_utf8}
use Rattle.std.specs.List.{list_all}
use Rattle.std.specs.Str.{IsAscii, IsUtf8}
use Rattle.host_state.proofs.Growth.{by_if}
use Rattle.pcap_text.specs.Laws.{IsByte}
use Rattle.run_fits.proofs.Bytes.{all_append}
use Rattle.run_fits.specs.Bytes.{AreBytes}

ascii_are : (text : List ℕ) → IsAscii text → AreBytes text
ascii_are [] h = tt
ascii_are (b ∷ text) h = (let low : b < 128 = h 0 in omega (arith, low), ascii_are text (λ i. h (suc i)))

pub decimal_are : (n : ℕ) → n < 2 ^ 64 → AreBytes (decimal n)
decimal_are n few = ascii_are (decimal n) (IsAscii-decimal n few)

-- a list whose bytes can be looked at
pub all_small : (bytes : List ℕ) → list_all (λ b. nat_lt b 256) bytes ≡ true → AreBytes bytes
all_small [] e = tt
all_small (b ∷ bytes) e = let parts = and_parts (nat_lt b 256) (list_all (λ b. nat_lt b 256) bytes) e in (grind (arith, nat_tests, parts.0), all_small bytes parts.1)

-- ---- UTF-8

next_small : (n : ℕ) → IsByte (128 + n % 64)
next_small n = let few : n % 64 < 64 = mod-lt n (omega arith) in omega (arith, few)

part_small : (n k m base : ℕ) → 0 < k → n < m * k → base + m ≤ 256 → IsByte (base + n / k)
part_small n k m base some few low = let less = div_below n k m some few in omega (arith, less, low)

below_by : (a b : ℕ) → nat_lt a b ≡ true → a < b
below_by a b e = grind (arith, nat_tests)

encoded_are : (c : ℕ) → c < 1114112 → AreBytes (encode_utf8 c)
unfolding encode_utf8
encoded_are c few =
    by_if AreBytes (nat_lt c 128) _ _
    (λ e. (let less = below_by c 128 e in omega (arith, less), tt))
    (λ e. by_if AreBytes (nat_lt c 2048) _ _
    (λ k. (part_small c 64 32 192 (omega arith) (let less = below_by c 2048 k in omega (arith, less)) (omega arith), (next_small c, tt)))
    (λ k. by_if AreBytes (nat_lt c 65536) _ _
    (λ m. (part_small c 4096 16 224 (omega arith) (let less = below_by c 65536 m in omega (arith, less)) (omega arith), (next_small (c / 64), (next_small c, tt))))
    (λ m. (part_small c 262144 5 240 (omega arith) (omega (arith, few)) (omega arith), (next_small (c / 4096), (next_small (c / 64), (next_small c, tt)))))))

scalar_few : (c : ℕ) → scalar c ≡ true → c < 1114112
scalar_few c e = ⊎_elim (λ (h : c < 55296). omega (arith, h)) (λ (h : (57344 ≤ c) × (c < 1114112)). h.1) (scalar_cases c e)

chars_are : (cs : List ℕ) → scalars cs ≡ true → AreBytes (encode_utf8_all cs)
chars_are [] e = tt
chars_are (c ∷ cs) e =
    let parts = and_parts (scalar c) (scalars cs) e in
    all_append IsByte (encode_utf8 c) (encode_utf8_all cs) (encoded_are c (scalar_few c parts.0)) (chars_are cs parts.1)

pub utf8_are : (text : List ℕ) → IsUtf8 text → AreBytes text
utf8_are text h = subst AreBytes h.1.1 (chars_are h.0 h.1.0)
