-- Scalars on one line: plain, '..' and "..", as this project's own profile of YAML 1.2 (7.3) has them.
use Rattle.std.specs.Prelude.{ℕ, ◌+◌, ◌-◌, ◌*◌, ◌≤◌, Bool, true, false, ◌&&◌, ◌||◌, not, List, [], ◌∷◌, ◌++◌, Option, Some, None, if◌then◌else◌, ◌==◌, nat_eq, nat_lt, nat_le, length, take, drop, option_map, option_and_then, encode_utf8, codes}
use Rattle.std.specs.Cmp.Lexicographic.{pointwise}
use Rattle.std.specs.List.{prefix_len, suffix_len}
use Rattle.std.specs.Char.{is_ascii_digit}
use Rattle.std.specs.Int.{is_in_range}
use Rattle.sim_base.specs.Ascii.{ampersand, apostrophe, asterisk, at_sign, backslash, capital_a, capital_f, carriage_return, colon, comma, digit_0, exclamation_mark, grave_accent, greater_than, hyphen, left_brace, left_bracket, line_feed, number_sign, percent_sign, question_mark, quotation_mark, right_brace, right_bracket, slash, small_a, small_f, small_n, small_r, small_t, small_u, small_x, space, tab, vertical_bar}
use Rattle.yaml_tokens.specs.Lines.{begins_with}
use Rattle.yaml_tokens.specs.declared.escapes.Escape.{Escape}
use Rattle.yaml_tokens.specs.declared.escapes.Escape.TheVariants.{Outside, Behind, Digits}
use Rattle.yaml_tokens.specs.declared.escapes.Added.{Added}
use Rattle.yaml_tokens.specs.declared.escapes.Added.TheVariants.{Nothing, Byte, Character}
use Rattle.yaml_tokens.specs.declared.scan.Scan.{Scan}
use Rattle.yaml_tokens.specs.declared.scan.Scan.TheVariants.{Plain, Quoted, Refused}
use Rattle.yaml_tokens.specs.declared.odd.Odd.{Odd}
use Rattle.yaml_tokens.specs.declared.odd.Odd.TheVariants as odd

abbrev pub is_space : ℕ → Bool
is_space b = b == space

-- before a space or the line's end
abbrev pub at_gap : List ℕ → Bool
at_gap [] = true
at_gap (b ∷ _) = b == space

abbrev pub after_spaces : List ℕ → List ℕ
after_spaces bytes = drop (prefix_len is_space bytes) bytes

abbrev pub is_nothing : List ℕ → Bool
is_nothing [] = true
is_nothing (_ ∷ _) = false

-- nothing but spaces, or a comment: `#` behind a space
abbrev pub at_end : List ℕ → Bool
at_end bytes = is_nothing (after_spaces bytes) || (begins_with space bytes && begins_with number_sign (after_spaces bytes))

-- `:` before a space or the line's end, spaces before it aside
abbrev pub at_colon : List ℕ → Bool
at_colon bytes = begins_with colon (after_spaces bytes) && at_gap (drop 1 (after_spaces bytes))

-- ---- plain

-- A plain scalar ends before `: `, `:` at the line's end and ` #`.
abbrev pub plain_ends : ℕ → List ℕ → Bool
plain_ends b bytes = ((b == colon) && at_gap bytes) || ((b == space) && begins_with number_sign bytes)

unfoldable pub plain_len : List ℕ → ℕ
plain_len [] = 0
plain_len (b ∷ bytes) = if plain_ends b bytes then 0 else 1 + plain_len bytes

-- Trailing spaces don't count.
abbrev pub without_spaces : List ℕ → List ℕ
without_spaces bytes = take (length bytes - suffix_len is_space bytes) bytes

abbrev pub plain_text : List ℕ → List ℕ
plain_text bytes = without_spaces (take (plain_len bytes) bytes)

abbrev pub is_null : List ℕ → Bool
is_null text = pointwise nat_eq text (codes "~") || pointwise nat_eq text (codes "null")

-- what a plain scalar says: plain `~` and `null` are null
abbrev pub plain_value : List ℕ → Option (List ℕ)
plain_value text = if is_null text then None else Some text

-- ---- in single quotes: `''` stands for a quote

-- A quote is held back until the byte behind it tells whether it closes: a second one stands for a quote.
abbrev pub holds_back : Bool → ℕ → Bool
holds_back held b = (b == apostrophe) && not held

abbrev pub closes : Bool → ℕ → Bool
closes held b = held && not (b == apostrophe)

abbrev pub single_part : Bool → ℕ → List ℕ
single_part held b = if holds_back held b then [] else b ∷ []

abbrev pub with_part : List ℕ → List ℕ × ℕ → List ℕ × ℕ
with_part part found = (part ++ found.0, 1 + found.1)

-- What the bytes behind the opening quote spell, and how many of them, with the closing quote; nothing where
-- it isn't closed. In the first argument stands whether a quote is held back.
unfoldable pub single_quoted : Bool → List ℕ → Option (List ℕ × ℕ)
single_quoted held [] = if held then Some ([], 0) else None
single_quoted held (b ∷ bytes) = if closes held b then Some ([], 0)
    else option_map (with_part (single_part held b)) (single_quoted (holds_back held b) bytes)

-- ---- in double quotes

-- How many bytes stand before the closing quote. In the first argument stands whether a backslash stood before.
unfoldable pub double_len : Bool → List ℕ → Option ℕ
double_len escaped [] = None
double_len escaped (b ∷ bytes) = if (b == quotation_mark) && not escaped then Some 0
    else option_map (λ n. 1 + n) (double_len ((b == backslash) && not escaped) bytes)

-- `\" \\ \/ \n \r \t \0`
abbrev pub escaped_byte : ℕ → Option ℕ
escaped_byte b = if (b == quotation_mark) || (b == backslash) || (b == slash) then Some b
    else (if b == small_n then Some line_feed
    else (if b == small_r then Some carriage_return
    else (if b == small_t then Some tab
    else (if b == digit_0 then Some 0 else None))))

abbrev pub hex_value : ℕ → Option ℕ
hex_value b = if is_ascii_digit b then Some (b - digit_0)
    else (if is_in_range capital_a capital_f b then Some ((b - capital_a) + 10)
    else (if is_in_range small_a small_f b then Some ((b - small_a) + 10) else None))

-- U+D800 to U+DFFF are no characters
abbrev pub is_surrogate : ℕ → Bool
is_surrogate n = nat_le 0xD800 n && nat_lt n 0xE000

abbrev pub put_before : List ℕ → Option (List ℕ) → Option (List ℕ)
put_before front = option_map (λ text. front ++ text)

-- a number that is whole: the character of that number
abbrev pub number_step : ℕ → ℕ → Option (Escape × Added)
number_step left n = if nat_lt 1 left then Some (Digits (left - 1) n, Nothing)
    else (if is_surrogate n then None else Some (Outside, Character n))

-- Where a reader of escapes is after a byte more, and what the byte adds: `\xHH` and `\uHHHH` are characters by
-- number, and a byte outside of escapes is itself.
abbrev pub escape_step : Escape → ℕ → Option (Escape × Added)
escape_step Outside b = if b == backslash then Some (Behind, Nothing) else Some (Outside, Byte b)
escape_step Behind b = if b == small_x then Some (Digits 2 0, Nothing)
    else (if b == small_u then Some (Digits 4 0, Nothing)
    else option_map (λ c. (Outside, Byte c)) (escaped_byte b))
escape_step (Digits left n) b = option_and_then (λ d. number_step left (n * 16 + d)) (hex_value b)

abbrev pub added_bytes : Added → List ℕ
added_bytes Nothing = []
added_bytes (Byte b) = b ∷ []
added_bytes (Character c) = encode_utf8 c

abbrev pub is_outside : Escape → Bool
is_outside Outside = true
is_outside Behind = false
is_outside (Digits left n) = false

-- The text that the bytes between the quotes spell, or nothing where an escape is none of those above. In the
-- first argument stands where the reader is.
unfoldable pub unescaped : Escape → List ℕ → Option (List ℕ)
unescaped place [] = if is_outside place then Some [] else None
unescaped place (b ∷ bytes) = option_and_then (λ s. put_before (added_bytes s.1) (unescaped s.0 bytes)) (escape_step place b)

-- ---- any of the three

abbrev pub single_scan : Option (List ℕ × ℕ) → Scan
single_scan None = Refused odd.Unsupported
single_scan (Some found) = Quoted found.0 (1 + found.1)

abbrev pub double_text : ℕ → Option (List ℕ) → Scan
double_text len None = Refused odd.Syntax
double_text len (Some text) = Quoted text (2 + len)

abbrev pub double_scan : List ℕ → Option ℕ → Scan
double_scan bytes None = Refused odd.Unsupported
double_scan bytes (Some len) = double_text len (unescaped Outside (take len bytes))

-- a scalar takes no more bytes than this
abbrev pub IsWithin : Scan → ℕ → Type 0
IsWithin (Plain text len) n = len ≤ n
IsWithin (Quoted text len) n = len ≤ n
IsWithin (Refused why) n = Unit {0}

-- `! > [ { & * |`
abbrev pub is_indicator : ℕ → Bool
is_indicator b = (b == exclamation_mark) || (b == greater_than) || (b == left_bracket) || (b == left_brace) || (b == ampersand) || (b == asterisk) || (b == vertical_bar)

-- `, ] } # % @` and the backquote
abbrev pub cannot_begin : ℕ → Bool
cannot_begin b = (b == comma) || (b == right_bracket) || (b == right_brace) || (b == number_sign) || (b == percent_sign) || (b == at_sign) || (b == grave_accent)

-- what begins no plain scalar
abbrev pub is_unplain : ℕ → List ℕ → Bool
is_unplain b bytes = cannot_begin b || (((b == hyphen) || (b == question_mark) || (b == colon)) && at_gap bytes)

-- `? `
abbrev pub asks : ℕ → List ℕ → Bool
asks b bytes = (b == question_mark) && begins_with space bytes

unfoldable pub bare_scan : ℕ → List ℕ → Scan
bare_scan b bytes = if is_indicator b then Refused odd.Indicator
    else (if asks b bytes then Refused odd.Unsupported
    else (if is_unplain b bytes then Refused odd.Syntax
    else Plain (plain_text (b ∷ bytes)) (plain_len (b ∷ bytes))))

unfoldable pub scan_of : ℕ → List ℕ → Scan
scan_of b bytes = if b == apostrophe then single_scan (single_quoted false bytes)
    else (if b == quotation_mark then double_scan bytes (double_len false bytes)
    else bare_scan b bytes)

-- The scalar at the front of bytes that don't begin with a space. A quote that isn't closed on its line and
-- `? ` are unsupported.
unfoldable pub scalar_at : List ℕ → Scan
scalar_at [] = Refused odd.Syntax
scalar_at (b ∷ bytes) = scan_of b bytes

-- why nothing of this may stand behind a value
abbrev pub why_not : Scan → Odd
why_not (Plain text len) = odd.Syntax
why_not (Quoted text len) = odd.Syntax
why_not (Refused odd.Indicator) = odd.Syntax
why_not (Refused odd.Unkeyed) = odd.Syntax
why_not (Refused odd.Unsupported) = odd.Unsupported
why_not (Refused odd.Syntax) = odd.Syntax
