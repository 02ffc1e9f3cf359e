-- Numbers as they are shown are bare words, and are read as these numbers.
use Rattle.std.proofs.Common.{◌≡◌, ℕ, zero, suc, ◌+◌, ◌*◌, ◌-◌, ◌/◌, ◌%◌, ◌^◌, ◌<◌, Bool, true, false, ◌&&◌, not, ◌==◌, nat_lt, List, [], ◌∷◌, ◌++◌, map, length, get_or, slice_index, take, drop, Some, codes, decimal, bytes_eq, refl, sym, ap, ◌∙◌, append-nil, append_assoc, arith, length-append, get_or-append-add, take_at, drop_at, true≢false, le-ltb, lt-ltb, mul-one}
use Rattle.std.specs.List.{list_all, prefix_len, before_first}
use Rattle.std.specs.Char.{is_ascii_digit, is_ascii_alphanumeric, digit_value}
use Rattle.std.specs.Str.{str_eq_ignore_ascii_case}
use Rattle.std.specs.Str.Parse.{AllDigits, digits_value}
use Rattle.std.proofs.lemmas.Bool.{and_parts, and_from, ne_eqb}
use Rattle.std.proofs.lemmas.Bool.Decides.{nat_tests}
use Rattle.std.proofs.lemmas.Fmt.{decimal_is_IsNumeral, decimal_digit, decimal-digits_of}
use Rattle.std.proofs.lemmas.Int.Digits.{first_digits_of}
use Rattle.std.specs.Int.Digits.{digits_of}
use Rattle.sim_base.specs.Ascii.{space}
use Rattle.base_texts.specs.Quantity.{Units, time_units, rate_units, factor_in, in_64_bits, digits_of_text, some_digits, unit_of_text, quantity, rate_of_text}
use Rattle.sim_base.specs.declared.time.Time.{Time}
use Rattle.sim_base.specs.declared.address.Ip.{Ip}
use Rattle.shd_values.specs.Number.{digits_number, number_of, size_of}
use Rattle.shd_values.specs.Address.{is_point, octet, behind_point, address_of}
use Rattle.yaml_tokens.specs.Scalars.{is_space, is_null}
use Rattle.shd_config.specs.Values.{time_of}
use Rattle.config_lines.specs.Shown.{shown_time, shown_rate, shown_address}
use Rattle.text_trees.proofs.Bytes.{all-append, all_weaker}
use Rattle.shown_config.proofs.words.Words.{is_bare, is_other, begins_with_letter, last_byte, IsBare}

-- ---- digits

digit : (c : ℕ) → digit_value c < 10 → is_ascii_digit c ≡ true
digit c h = grind (arith, nat_tests)

digit_bare : (c : ℕ) → is_ascii_digit c ≡ true → is_bare c ≡ true
digit_bare c h = grind (arith, nat_tests)

digit_letter : (c : ℕ) → is_ascii_digit c ≡ true → is_ascii_alphanumeric c ≡ true
digit_letter c h = grind (arith, nat_tests)

all_digits : (ds : List ℕ) → AllDigits 10 ds → list_all is_ascii_digit ds ≡ true
all_digits [] h = refl
all_digits (c ∷ cs) h = and_from (is_ascii_digit c) _ (digit c h.0) (all_digits cs h.1)

abbrev begins_with_digit : List ℕ → Bool
begins_with_digit [] = false
begins_with_digit (b ∷ bytes) = is_ascii_digit b

-- the digits of a number
record Digits (n : ℕ) (ds : List ℕ) : Type 0 where
  are : list_all is_ascii_digit ds ≡ true
  some : 0 < length ds
  first : begins_with_digit ds ≡ true
  value : digits_value 10 ds ≡ n

first_digit : (ds : List ℕ) → 0 < length ds → list_all is_ascii_digit ds ≡ true → begins_with_digit ds ≡ true
first_digit [] h k = absurd (omega (arith, h))
first_digit (c ∷ cs) h k = (and_parts (is_ascii_digit c) _ k).0

decimal-digits : (n : ℕ) → n < 2 ^ 64 → Digits n (decimal n)
decimal-digits n h =
    let k = decimal_is_IsNumeral n h in
    let are = all_digits (decimal n) k.0.1 in
    record { are = are; some = k.0.0; first = first_digit (decimal n) k.0.0 are; value = k.1 }

-- ---- bare words

-- what begins with a digit isn't null
digit_other : (text : List ℕ) → begins_with_digit text ≡ true → is_null text ≡ false
digit_other [] h = absurd (true≢false (sym h))
digit_other (b ∷ bytes) h = rw (is_other is_ascii_digit b 126 h refl, is_other is_ascii_digit b 110 h refl) refl

digit_first : (text : List ℕ) → begins_with_digit text ≡ true → begins_with_letter text ≡ true
digit_first [] h = absurd (true≢false (sym h))
digit_first (b ∷ bytes) h = digit_letter b h

number_bare : (text : List ℕ) → list_all is_bare text ≡ true → begins_with_digit text ≡ true → is_space (last_byte text) ≡ false → IsBare text
number_bare text h f l = record { bytes = h; first = digit_first text f; last = l; other = digit_other text f }

last_byte_append : (xs ys : List ℕ) → 0 < length ys → last_byte (xs ++ ys) ≡ last_byte ys
last_byte_append xs ys h =
    let e : length (xs ++ ys) - 1 ≡ length xs + (length ys - 1) = (let a = length-append xs ys in omega (arith, a)) in
    ap (λ n. get_or (xs ++ ys) n 0) e ∙ get_or-append-add xs ys (length ys - 1) 0

begins_append : (xs ys : List ℕ) → begins_with_digit xs ≡ true → begins_with_digit (xs ++ ys) ≡ true
begins_append [] ys h = absurd (true≢false (sym h))
begins_append (x ∷ xs) ys h = h

last_of_digits : (ds : List ℕ) → 0 < length ds → list_all is_ascii_digit ds ≡ true → is_space (last_byte ds) ≡ false
last_of_digits [] h k = absurd (omega (arith, h))
last_of_digits (c ∷ []) h k = is_other is_ascii_digit c 32 (and_parts (is_ascii_digit c) _ k).0 refl
last_of_digits (c ∷ d ∷ ds) h k =
    let e : suc (suc (length ds)) - 1 ≡ suc (length ds) = omega arith in
    ap (λ n. is_space (get_or (c ∷ d ∷ ds) n 0)) e ∙ (let f : length (d ∷ ds) - 1 ≡ length ds = omega arith in ap (λ n. is_space (get_or (d ∷ ds) n 0)) (sym f))
    ∙ last_of_digits (d ∷ ds) (omega arith) (and_parts (is_ascii_digit c) _ k).1

pub decimal_bare : (n : ℕ) → n < 2 ^ 64 → IsBare (decimal n)
decimal_bare n h = let d = decimal-digits n h in number_bare (decimal n) (all_weaker is_ascii_digit is_bare digit_bare (decimal n) d.are) d.first (last_of_digits (decimal n) d.some d.are)

-- a number with its unit
pub unit_bare : (n : ℕ) (unit : List ℕ) → n < 2 ^ 64 → list_all is_bare unit ≡ true → 0 < length unit → is_space (last_byte unit) ≡ false → IsBare (decimal n ++ unit)
unit_bare n unit h b s l =
    let d = decimal-digits n h in
    number_bare (decimal n ++ unit) (all-append is_bare (decimal n) unit (all_weaker is_ascii_digit is_bare digit_bare (decimal n) d.are) b) (begins_append (decimal n) unit d.first) (ap is_space (last_byte_append (decimal n) unit s) ∙ l)

-- ---- numbers

prefix_digits : (ds rest : List ℕ) → list_all is_ascii_digit ds ≡ true → begins_with_digit rest ≡ false → prefix_len is_ascii_digit (ds ++ rest) ≡ length ds
prefix_digits [] [] h k = refl
prefix_digits [] (b ∷ bytes) h k = rw k refl
prefix_digits (c ∷ cs) rest h k =
    let p = and_parts (is_ascii_digit c) (list_all is_ascii_digit cs) h in
    let more = prefix_digits cs rest p.1 k in
    rw (p.0) (omega (arith, more))

some_digits_is : (ds : List ℕ) → 0 < length ds → some_digits ds ≡ Some ds
some_digits_is [] h = absurd (omega (arith, h))
some_digits_is (c ∷ cs) h = refl

module _ (n : ℕ) (ds rest : List ℕ) (d : Digits n ds) (other : begins_with_digit rest ≡ false) where
  front : digits_of_text (ds ++ rest) ≡ ds
  front = ap (λ k. take k (ds ++ rest)) (prefix_digits ds rest d.are other) ∙ take_at ds rest (length ds) refl

  back : drop (prefix_len is_ascii_digit (ds ++ rest)) (ds ++ rest) ≡ rest
  back = ap (λ k. drop k (ds ++ rest)) (prefix_digits ds rest d.are other) ∙ drop_at ds rest (length ds) refl

  found : some_digits (digits_of_text (ds ++ rest)) ≡ Some ds
  found = ap some_digits front ∙ some_digits_is ds d.some

in_64 : (n : ℕ) → n < 2 ^ 64 → in_64_bits n ≡ Some n
in_64 n h = rw (lt-ltb n (2 ^ 64) h) refl

-- what is read of digits, a space and a unit of the table that stands for one
quantity_read : (same : List ℕ → List ℕ → Bool) (units : Units) (n b : ℕ) (unit : List ℕ) → n < 2 ^ 64 → (b == 32) ≡ false → factor_in same units (b ∷ unit) ≡ Some 1
    → quantity same units (decimal n ++ (32 ∷ (b ∷ unit))) ≡ Some n
quantity_read same units n b unit h s f =
    let d = decimal-digits n h in
    let rest = 32 ∷ (b ∷ unit) in
    let behind : unit_of_text (decimal n ++ rest) ≡ b ∷ unit = ap (λ l. drop (prefix_len (λ c. c == space) l) l) (back n (decimal n) rest d refl) ∙ rw s refl in
    rw (found n (decimal n) rest d refl, d.value, in_64 n h, behind, f, mul-one n, in_64 n h) refl

pub time_read : (t : Time) → t.nanos < 2 ^ 64 → time_of (shown_time t) ≡ Some t
time_read t h = rw (quantity_read bytes_eq time_units t.nanos 110 (codes "s") h refl refl) refl

pub rate_read : (n : ℕ) → n < 2 ^ 64 → rate_of_text (shown_rate n) ≡ Some n
rate_read n h = quantity_read str_eq_ignore_ascii_case rate_units n 98 (codes "it") h refl refl

digits_number_is : (n : ℕ) (rest : List ℕ) → n < 2 ^ 64 → begins_with_digit rest ≡ false → digits_number (decimal n ++ rest) ≡ Some n
digits_number_is n rest h o =
    let d = decimal-digits n h in
    let small : nat_lt n (2 ^ 128) ≡ true = lt-ltb n (2 ^ 128) (omega arith) in
    rw (found n (decimal n) rest d o, d.value, small) refl

pub number_read : (n : ℕ) → n < 2 ^ 64 → number_of (decimal n) ≡ Some n
number_read n h =
    let d = decimal-digits n h in
    let whole : prefix_len is_ascii_digit (decimal n) ≡ length (decimal n) = ap (prefix_len is_ascii_digit) (sym (append-nil (decimal n))) ∙ prefix_digits (decimal n) [] d.are refl in
    let none : nat_lt (prefix_len is_ascii_digit (decimal n)) (length (decimal n)) ≡ false = le-ltb _ _ (omega (arith, whole)) in
    rw none (ap digits_number (sym (append-nil (decimal n))) ∙ digits_number_is n [] h refl)

pub size_read : (n : ℕ) → n < 2 ^ 64 → size_of (decimal n ++ codes " B") ≡ Some n
size_read n h =
    let d = decimal-digits n h in
    let behind : unit_of_text (decimal n ++ codes " B") ≡ codes "B" = ap (λ l. drop (prefix_len (λ c. c == space) l) l) (back n (decimal n) (codes " B") d refl) in
    let small : nat_lt n (2 ^ 128) ≡ true = lt-ltb n (2 ^ 128) (omega arith) in
    rw (digits_number_is n (codes " B") h refl, behind, mul-one n, small) refl

-- ---- addresses

-- no number of more digits than one begins with 0
first_digit_of : (n : ℕ) → n < 2 ^ 64 → (nat_lt 1 (length (decimal n)) && slice_index (decimal n) 0 == 48) ≡ false
first_digit_of zero h = rw (decimal_digit 0 (omega arith)) refl
first_digit_of (suc n) h = rw (decimal-digits_of (suc n) (omega arith) h) (rw (by (digits_of 10 (suc n)) (first_digits_of 10 (suc n) (omega arith) (omega arith))) (and_false (nat_lt 1 _)))
  where
    and_false : (a : Bool) → (a && false) ≡ false
    and_false true = refl
    and_false false = refl

    by : (ds : List ℕ) → 0 < get_or ds 0 0 → (slice_index (map (λ d. 48 + d) ds) 0 == 48) ≡ false
    by [] lt = absurd (omega (arith, lt))
    by (d ∷ ds) lt = ne_eqb (48 + d) 48 (λ e. absurd (omega (arith, e, lt)))

octet_read : (n : ℕ) → n < 256 → octet (decimal n) ≡ Some n
octet_read n h = rw (first_digit_of n (omega arith), number_read n (omega arith), lt-ltb n 256 h) refl

digits_points : (ds rest : List ℕ) → list_all is_ascii_digit ds ≡ true → prefix_len (λ b. not (is_point b)) (ds ++ (46 ∷ rest)) ≡ length ds
digits_points [] rest h = refl
digits_points (c ∷ cs) rest h =
    let p = and_parts (is_ascii_digit c) (list_all is_ascii_digit cs) h in
    let more = digits_points cs rest p.1 in
    rw (is_other is_ascii_digit c 46 p.0 refl) (omega (arith, more))

before_point : (n : ℕ) (rest : List ℕ) → n < 256 → before_first is_point (decimal n ++ (46 ∷ rest)) ≡ decimal n
before_point n rest h = ap (λ k. take k (decimal n ++ (46 ∷ rest))) (digits_points (decimal n) rest (decimal-digits n (omega arith)).are) ∙ take_at (decimal n) (46 ∷ rest) (length (decimal n)) refl

after_point : (n : ℕ) (rest : List ℕ) → n < 256 → behind_point (decimal n ++ (46 ∷ rest)) ≡ rest
after_point n rest h =
    ap (λ k. drop (k + 1) (decimal n ++ (46 ∷ rest))) (digits_points (decimal n) rest (decimal-digits n (omega arith)).are)
    ∙ ap (drop (length (decimal n) + 1)) (sym (append_assoc (decimal n) (46 ∷ []) rest))
    ∙ drop_at (decimal n ++ (46 ∷ [])) rest (length (decimal n) + 1) (length-append (decimal n) (46 ∷ []))

pub address_read : (ip : Ip) → ip.bits < 2 ^ 32 → address_of (shown_address ip) ≡ Some ip
address_read ip h =
    let a = ip.bits / 2 ^ 24 in
    let b = ip.bits / 2 ^ 16 % 256 in
    let c = ip.bits / 2 ^ 8 % 256 in
    let d = ip.bits % 256 in
    let small_a : a < 256 = omega arith in
    let small_b : b < 256 = omega arith in
    let small_c : c < 256 = omega arith in
    let small_d : d < 256 = omega arith in
    let whole : ((a * 256 + b) * 256 + c) * 256 + d ≡ ip.bits = omega arith in
    let third = decimal c ++ (46 ∷ decimal d) in
    let second = decimal b ++ (46 ∷ third) in
    rw (
      after_point a second small_a,
      after_point b third small_b,
      after_point c (decimal d) small_c,
      before_point a second small_a,
      before_point b third small_b,
      before_point c (decimal d) small_c,
      octet_read a small_a,
      octet_read b small_b,
      octet_read c small_c,
      octet_read d small_d,
      whole,
    ) refl

point_bare : (n : ℕ) (rest : List ℕ) → n < 256 → list_all is_bare rest ≡ true → list_all is_bare (decimal n ++ (46 ∷ rest)) ≡ true
point_bare n rest h k = all-append is_bare (decimal n) (46 ∷ rest) (all_weaker is_ascii_digit is_bare digit_bare (decimal n) (decimal-digits n (omega arith)).are) k

pub address_bare : (ip : Ip) → ip.bits < 2 ^ 32 → IsBare (shown_address ip)
address_bare ip h =
    let a = ip.bits / 2 ^ 24 in
    let b = ip.bits / 2 ^ 16 % 256 in
    let c = ip.bits / 2 ^ 8 % 256 in
    let d = ip.bits % 256 in
    let last = decimal-digits d (omega arith) in
    let third = decimal c ++ (46 ∷ decimal d) in
    let second = decimal b ++ (46 ∷ third) in
    let bytes = point_bare a second (omega arith) (point_bare b third (omega arith) (point_bare c (decimal d) (omega arith) (all_weaker is_ascii_digit is_bare digit_bare (decimal d) last.are))) in
    let behind : (xs : List ℕ) (n : ℕ) → 0 < length xs → last_byte (decimal n ++ (46 ∷ xs)) ≡ last_byte xs = λ xs n lt. last_byte_append (decimal n) (46 ∷ xs) (omega arith) ∙ last_byte_append (46 ∷ []) xs lt in
    number_bare (shown_address ip) bytes (begins_append (decimal a) (46 ∷ second) (decimal-digits a (omega arith)).first)
    (ap is_space (behind second a (length_point b third) ∙ behind third b (length_point c (decimal d)) ∙ behind (decimal d) c last.some) ∙ last_of_digits (decimal d) last.some last.are)
  where
    length_point : (n : ℕ) (rest : List ℕ) → 0 < length (decimal n ++ (46 ∷ rest))
    length_point n rest = let e = length-append (decimal n) (46 ∷ rest) in omega (arith, e)
