-- What `parse` makes of decimal digits.
use Rattle.std.proofs.Common.{◌≡◌, ◌∙◌, ℕ, ◌<◌, ◌^◌, Bool, true, false, ◌&&◌, List, length, None, Result, Ok, Err, refl, sym, ap, subst, arith, rules}
use Rattle.std.specs.Prelude.{nat_lt, nat_le, if◌then◌else◌}
use Rattle.std.specs.Char.{is_ascii_digit}
use Rattle.std.specs.List.{list_all}
use Rattle.std.specs.Str.Parse.{ParsesUnsigned, digits_value}
use Rattle.std.proofs.lemmas.Str.Parse.{numerals_by_value, parse_digits, IsDigitsTest, IsNumeralModel}
use Rattle.command_line.specs.Asked.{is_decimal, if_within, number_within}

tells : IsDigitsTest (λ (ds : List ℕ). list_all is_ascii_digit ds ≡ true)
tells = search rules

own : IsNumeralModel (λ (ds : List ℕ). list_all is_ascii_digit ds ≡ true) (digits_value 10)
own = numerals_by_value (λ (ds : List ℕ). list_all is_ascii_digit ds ≡ true) tells

both_true : (a b : Bool) → (a && b) ≡ true → (a ≡ true) × (b ≡ true)
both_true true b e = (refl, e)
both_true false b e = cc

too_large : (least most n : ℕ) → most < 2 ^ 32 → (n < 2 ^ 32 → ⊥) → if_within least most n ≡ None
too_large least most n small none = let over : nat_le n most ≡ false = grind arith in let out : (nat_le least n && nat_le n most) ≡ false = rw over (search rules) in rw out refl

at_decimal : (least most : ℕ) (text : List ℕ) → is_decimal text ≡ true → number_within least most text ≡ if_within least most (digits_value 10 text)
at_decimal least most text e = ap (λ (t : Bool). if t then if_within least most (digits_value 10 text) else None) e

-- a number that was parsed is the one that the digits write
pub parsed : {E : Type 0} (least most n : ℕ) (text : List ℕ) (r : Result ℕ E) → is_decimal text ≡ true → ParsesUnsigned 32 10 text r → r ≡ Ok n
    → number_within least most text ≡ if_within least most n
parsed {E} least most n text r decimal h is =
    let at_ok : ParsesUnsigned {E = E} 32 10 text (Ok n) = subst (λ (x : Result ℕ E). ParsesUnsigned 32 10 text x) is h in
    let told = parse_digits own {E = E} 32 text (Ok n) at_ok (both_true (nat_lt 0 (length text)) (list_all is_ascii_digit text) decimal).1 in
    at_decimal least most text decimal ∙ ap (λ (m : ℕ). if_within least most m) (sym told.1)

-- where none was parsed, the digits write none of 32 bits
pub not_parsed : {E : Type 0} (least most : ℕ) (text : List ℕ) (r : Result ℕ E) (e : E) → most < 2 ^ 32 → is_decimal text ≡ true → ParsesUnsigned 32 10 text r → r ≡ Err e
    → number_within least most text ≡ None
not_parsed {E} least most text r e small decimal h is =
    let at_err : ParsesUnsigned {E = E} 32 10 text (Err e) = subst (λ (x : Result ℕ E). ParsesUnsigned 32 10 text x) is h in
    let both = both_true (nat_lt 0 (length text)) (list_all is_ascii_digit text) decimal in
    let none = parse_digits own {E = E} 32 text (Err e) at_err both.1 in
    let some : 0 < length text = grind arith in
    at_decimal least most text decimal ∙ too_large least most (digits_value 10 text) small (λ fits. none (some, fits))
