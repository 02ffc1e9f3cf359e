-- A number as it is printed is a word, which is read as this number.
use Rattle.std.proofs.Common.{◌≡◌, ℕ, ◌+◌, ◌*◌, ◌-◌, ◌^◌, ◌<◌, ◌≤◌, true, false, nat_lt, List, [], ◌∷◌, ◌++◌, length, take, drop, Some, decimal, refl, sym, ap, ◌∙◌, append_assoc, append-nil, arith, lt-ltb, take_at, drop_at}
use Rattle.std.specs.List.{list_all, prefix_len}
use Rattle.std.specs.Char.{is_ascii_digit, is_ascii_alphabetic, digit_value}
use Rattle.std.specs.Str.Parse.{AllDigits}
use Rattle.std.proofs.lemmas.Bool.{and_parts, and_from, le-leb}
use Rattle.std.proofs.lemmas.Bool.Decides.{nat_tests}
use Rattle.std.proofs.lemmas.Fmt.{decimal_is_IsNumeral, digits_value-decimal, length-decimal-le}
use Rattle.std.proofs.lemmas.Str.Parse.{FoldsDigits, tells_digits, numerals_by_fold}
use Rattle.gml_graph.specs.declared.number.Decimal.{Decimal}
use Rattle.gml_graph.specs.declared.token.Token.TheVariants.{Number}
use Rattle.gml_graph.specs.Number as number
use Rattle.gml_graph.specs.Token.{is_key, word_token}
use Rattle.gml_graph.specs.Tokens.{ends_word, between, in_word, lexeme, next_line, brackets, state_behind, tokens_from}

-- a number that isn't below 0, without a point
abbrev pub whole : ℕ → Decimal
whole n = record { negative = false; digits = n; up = 0; down = 0; is_whole = true }

digit : (c : ℕ) → digit_value c < 10 → is_ascii_digit c ≡ true
digit c h = grind (arith, nat_tests)

all_digits : (ds : List ℕ) → AllDigits 10 ds → list_all is_ascii_digit ds ≡ true
all_digits [] h = refl
all_digits (c ∷ cs) h = and_from (is_ascii_digit c) _ (digit c h.0) (all_digits cs h.1)

-- what a word of digits is
abbrev sum_after : ℕ → List ℕ → ℕ
sum_after n ds = number.natural_after n ds

folds : FoldsDigits sum_after
folds = record { empty = λ n. refl; more = λ n c cs h. ap (λ (m : ℕ). sum_after (m + (c - 48)) cs) (let e : 10 * n ≡ n * 10 = omega arith in e) }

digits_value : (n : ℕ) → n < 2 ^ 64 → number.natural_after 0 (decimal n) ≡ n
digits_value n h = digits_value-decimal (numerals_by_fold (AllDigits 10) tells_digits sum_after folds) n h

record IsDigits (n : ℕ) (ds : List ℕ) : Type 0 where
  are : list_all is_ascii_digit ds ≡ true
  some : 0 < length ds
  few : length ds ≤ 4
  value : number.natural_after 0 ds ≡ n

decimal-digits : (n : ℕ) → n < 10000 → IsDigits n (decimal n)
decimal-digits n h =
    let small : n < 2 ^ 64 = omega arith in
    let k = decimal_is_IsNumeral n small in
    record { are = all_digits (decimal n) k.0.1; some = k.0.0; few = length-decimal-le 4 n (omega arith) (omega arith) small; value = digits_value n small }

prefix_digits : (ds : List ℕ) → list_all is_ascii_digit ds ≡ true → prefix_len is_ascii_digit ds ≡ length ds
prefix_digits [] h = refl
prefix_digits (c ∷ cs) h =
    let p = and_parts (is_ascii_digit c) (list_all is_ascii_digit cs) h in
    let more = prefix_digits cs p.1 in
    rw p.0 (omega (arith, more))

digits_all : (ds : List ℕ) → list_all is_ascii_digit ds ≡ true → number.digits ds ≡ ds
digits_all ds h = ap (λ k. take k ds) (prefix_digits ds h) ∙ ap (take (length ds)) (sym (append-nil ds)) ∙ take_at ds [] (length ds) refl

after_all : (ds : List ℕ) → list_all is_ascii_digit ds ≡ true → number.after_digits ds ≡ []
after_all ds h = ap (λ k. drop k ds) (prefix_digits ds h) ∙ ap (drop (length ds)) (sym (append-nil ds)) ∙ drop_at ds [] (length ds) refl

no_sign : (c : ℕ) → is_ascii_digit c ≡ true → number.is_sign c ≡ false
no_sign c h = grind (arith, nat_tests)

no_minus : (c : ℕ) → is_ascii_digit c ≡ true → number.is_minus c ≡ false
no_minus c h = grind (arith, nat_tests)

no_letter : (c : ℕ) → is_ascii_digit c ≡ true → is_ascii_alphabetic c ≡ false
no_letter c h = grind (arith, nat_tests)

unsigned : (ds : List ℕ) → list_all is_ascii_digit ds ≡ true → number.after_sign ds ≡ ds
unsigned [] h = refl
unsigned (c ∷ cs) h = rw (no_sign c (and_parts (is_ascii_digit c) _ h).0) refl

positive : (ds : List ℕ) → list_all is_ascii_digit ds ≡ true → number.begins_with number.is_minus ds ≡ false
positive [] h = refl
positive (c ∷ cs) h = no_minus c (and_parts (is_ascii_digit c) _ h).0

no_key : (ds : List ℕ) → list_all is_ascii_digit ds ≡ true → is_key ds ≡ false
no_key [] h = refl
no_key (c ∷ cs) h = rw (no_letter c (and_parts (is_ascii_digit c) _ h).0) refl

fits : (count : ℕ) → 0 < count → count ≤ 36 → number.fits (count + 0) ≡ true
fits count some few = and_from (nat_lt 0 (count + 0)) _ (lt-ltb 0 (count + 0) (omega arith)) (le-leb (count + 0) 36 (omega arith))

number_read : (n : ℕ) (ds : List ℕ) → IsDigits n ds → number.decimal ds ≡ Some (whole n)
unfolding number.decimal
number_read n ds d =
    rw (unsigned ds d.are, positive ds d.are, digits_all ds d.are, after_all ds d.are, fits (length ds) d.some (omega (arith, d.few)), d.value) refl

word_read : (n : ℕ) (ds : List ℕ) → IsDigits n ds → word_token ds ≡ Number (whole n)
unfolding word_token
word_read n ds d = rw (no_key ds d.are, number_read n ds d) refl

-- where the word stands in a text
digit_inside : (c : ℕ) (rest : List ℕ) → is_ascii_digit c ≡ true → ends_word c rest ≡ false
digit_inside c rest h = grind (arith, nat_tests)

digit_line : (c line : ℕ) → is_ascii_digit c ≡ true → next_line line c ≡ line
digit_line c line h = grind (arith, nat_tests)

inside : (before ds rest : List ℕ) (line : ℕ) → list_all is_ascii_digit ds ≡ true
    → tokens_from (in_word before) line (ds ++ (32 ∷ rest)) ≡ lexeme line (word_token (before ++ ds)) ∷ tokens_from (between false) line rest
inside before [] rest line h = ap (λ w. lexeme line (word_token w) ∷ tokens_from (between false) line rest) (sym (append-nil before))
inside before (c ∷ cs) rest line h =
    let p = and_parts (is_ascii_digit c) (list_all is_ascii_digit cs) h in
    rw (digit_inside c (cs ++ (32 ∷ rest)) p.0, digit_line c line p.0)
    (inside (before ++ c ∷ []) cs rest line p.1 ∙ ap (λ w. lexeme line (word_token w) ∷ tokens_from (between false) line rest) (append_assoc before (c ∷ []) cs))

begun : (c line : ℕ) (rest : List ℕ) → is_ascii_digit c ≡ true → tokens_from (between false) line (c ∷ rest) ≡ tokens_from (in_word (c ∷ [])) line rest
begun c line rest h =
    let place : state_behind false line c rest ≡ in_word (c ∷ []) = grind (arith, nat_tests) in
    let none : brackets line c ≡ [] = grind (arith, nat_tests) in
    rw (none, place, digit_line c line h) refl

digits_read : (ds rest : List ℕ) (line : ℕ) → 0 < length ds → list_all is_ascii_digit ds ≡ true
    → tokens_from (between false) line (ds ++ (32 ∷ rest)) ≡ lexeme line (word_token ds) ∷ tokens_from (between false) line rest
digits_read [] rest line some h = absurd (omega (arith, some))
digits_read (c ∷ cs) rest line some h =
    let p = and_parts (is_ascii_digit c) (list_all is_ascii_digit cs) h in
    begun c line (cs ++ (32 ∷ rest)) p.0 ∙ inside (c ∷ []) cs rest line p.1

-- a number and a space
pub number_front : (n line : ℕ) (rest : List ℕ) → n < 10000
    → tokens_from (between false) line (decimal n ++ (32 ∷ rest)) ≡ lexeme line (Number (whole n)) ∷ tokens_from (between false) line rest
number_front n line rest h =
    let d = decimal-digits n h in
    digits_read (decimal n) rest line d.some d.are ∙ ap (λ t. lexeme line t ∷ tokens_from (between false) line rest) (word_read n (decimal n) d)
