-- the digits at the front of a text, and the numbers that they write
use Rattle.std.proofs.Common.{◌≡◌, ℕ, zero, suc, ◌+◌, ◌*◌, ◌<◌, ◌≤◌, Bool, true, false, List, [], ◌∷◌, take, cond, refl, arith}
use Rattle.std.specs.Char.{digit_value, is_ascii_digit}
use Rattle.std.specs.List.{prefix_len}
use Rattle.std.specs.Str.Parse.{AllDigits, digits_value, digits_value_after}
use Rattle.std.proofs.lemmas.Bool.Decides.{nat_tests}

digit_from_test : (c : ℕ) → is_ascii_digit c ≡ true → digit_value c < 10
digit_from_test c e = grind (arith, nat_tests)

front_more : (c : ℕ) (cs : List ℕ) → AllDigits 10 (take (prefix_len is_ascii_digit cs) cs)
    → (b : Bool) → is_ascii_digit c ≡ b → AllDigits 10 (take (cond b (1 + prefix_len is_ascii_digit cs) 0) (c ∷ cs))
front_more c cs h true e = rw one_more (digit_from_test c e, h) where
  one_more : 1 + prefix_len is_ascii_digit cs ≡ suc (prefix_len is_ascii_digit cs)
  one_more = omega arith
front_more c cs h false e = tt

-- the front that passes the test is all digits
pub AllDigits_front : (text : List ℕ) → AllDigits 10 (take (prefix_len is_ascii_digit text) text)
AllDigits_front [] = tt
AllDigits_front (c ∷ cs) = front_more c cs (AllDigits_front cs) (is_ascii_digit c) refl

value_after_ge : (n : ℕ) (ds : List ℕ) → n ≤ digits_value_after 10 n ds
value_after_ge n [] = omega arith
value_after_ge n (d ∷ ds) = omega (arith, value_after_ge (n * 10 + digit_value d) ds)

value_after_take : (n i : ℕ) (ds : List ℕ) → digits_value_after 10 n (take i ds) ≤ digits_value_after 10 n ds
value_after_take n zero ds = value_after_ge n ds
value_after_take n (suc i) [] = omega arith
value_after_take n (suc i) (d ∷ ds) = value_after_take (n * 10 + digit_value d) i ds

-- the first digits write no more than all of them
pub digits_value-take-le : (i : ℕ) (ds : List ℕ) → digits_value 10 (take i ds) ≤ digits_value 10 ds
digits_value-take-le i ds = value_after_take 0 i ds
