-- Numbers: an optional sign; digits with an optional point, with a digit on one side at least, at most 36 of them;
-- an optional e or E with an optional sign and one to four digits.
use Rattle.std.specs.Prelude.{ℕ, ◌+◌, ◌-◌, ◌*◌, ◌/◌, ◌^◌, Bool, false, ◌&&◌, ◌||◌, not, if◌then◌else◌, ◌==◌, nat_lt, nat_le, List, [], ◌∷◌, length, take, drop, fold, Option, Some, None}
use Rattle.std.specs.List.{prefix_len, list_all}
use Rattle.std.specs.Option.{option_map}
use Rattle.std.specs.Char.{is_ascii_digit}
use Rattle.sim_base.specs.Ascii.{plus_sign, hyphen, full_stop, digit_0, small_e, capital_e}
use Rattle.gml_graph.specs.declared.number.Decimal.{Decimal}
use Rattle.gml_graph.specs.declared.number.Exponent.{Exponent}
use Rattle.gml_graph.specs.Limits.{most_digits, most_exponent_digits}

-- + and -
abbrev pub is_sign : ℕ → Bool
is_sign b = b == plus_sign || b == hyphen

abbrev pub is_minus : ℕ → Bool
is_minus b = b == hyphen

-- a point
abbrev pub is_point : ℕ → Bool
is_point b = b == full_stop

abbrev pub is_exponent_sign : ℕ → Bool
is_exponent_sign b = b == small_e || b == capital_e

abbrev pub begins_with : (ℕ → Bool) → List ℕ → Bool
begins_with test [] = false
begins_with test (b ∷ bs) = test b

-- what stands behind an optional sign
abbrev pub after_sign : List ℕ → List ℕ
after_sign bs = if begins_with is_sign bs then drop 1 bs else bs

-- the digits at the front, and what stands behind them
abbrev pub digits : List ℕ → List ℕ
digits bs = take (prefix_len is_ascii_digit bs) bs

abbrev pub after_digits : List ℕ → List ℕ
after_digits bs = drop (prefix_len is_ascii_digit bs) bs

-- the digits behind a point, if there is one, and what stands behind them
abbrev pub fraction : List ℕ → List ℕ
fraction bs = if begins_with is_point bs then digits (drop 1 bs) else []

abbrev pub after_fraction : List ℕ → List ℕ
after_fraction bs = if begins_with is_point bs then after_digits (drop 1 bs) else bs

-- the number that digits spell behind those of n
abbrev pub natural_after : ℕ → List ℕ → ℕ
natural_after n ds = fold (λ n d. 10 * n + (d - digit_0)) n ds

-- one to four digits
abbrev pub is_power : List ℕ → Bool
is_power ds = nat_lt 0 (length ds) && nat_le (length ds) most_exponent_digits && list_all is_ascii_digit ds

-- the exponent that all of the bytes spell; no bytes spell 0
abbrev pub exponent : List ℕ → Option Exponent
exponent [] = Some (record { negative = false; size = 0 })
exponent (b ∷ bs) =
    if is_exponent_sign b && is_power (after_sign bs)
    then Some (record { negative = begins_with is_minus bs; size = natural_after 0 (after_sign bs) })
    else None

-- the number of these digits before and behind the point
abbrev pub decimal_of : Bool → List ℕ → List ℕ → Bool → Exponent → Decimal
decimal_of negative whole part is_whole power = record {
  negative = negative;
  digits = natural_after (natural_after 0 whole) part;
  up = (if power.negative then 0 else power.size);
  down = length part + (if power.negative then power.size else 0);
  is_whole = is_whole;
}

abbrev pub is_empty : List ℕ → Bool
is_empty bs = length bs == 0

-- whether there are 1 to 36 of them
abbrev pub fits : ℕ → Bool
fits count = nat_lt 0 count && nat_le count most_digits

-- the number that all bytes of a word spell
unfoldable pub decimal : List ℕ → Option Decimal
decimal word =
    let whole = digits (after_sign word) in
    let rest = after_digits (after_sign word) in
    if fits (length whole + length (fraction rest))
    then option_map (decimal_of (begins_with is_minus word) whole (fraction rest) (is_empty rest)) (exponent (after_fraction rest))
    else None

-- a natural number: no point, no exponent, and not below 0
abbrev pub natural : Decimal → Option ℕ
natural d = if d.is_whole && (d.digits == 0 || not d.negative) then Some d.digits else None

-- whether it is at most 1 and not below 0
abbrev pub is_part : Decimal → Bool
is_part d = d.digits == 0 || (not d.negative && nat_le (d.digits * 10 ^ d.up) (10 ^ d.down))

-- the number of whole units of 10^-9 in it
abbrev pub units : Decimal → ℕ
units d = d.digits * 10 ^ (d.up + 9) / 10 ^ d.down
