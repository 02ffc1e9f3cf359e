-- Texts in double quotes, as they stand in a YAML text (YAML 1.2, 7.3.1, in this project's own profile).
use Rattle.std.specs.Prelude.{ℕ, ◌+◌, ◌-◌, ◌/◌, ◌%◌, ◌==◌, ◌||◌, nat_lt, if◌then◌else◌, List, [], ◌∷◌, ◌++◌, encode_utf8, codes}
use Rattle.std.specs.List.{flat_map}
use Rattle.std.specs.Str.{chars}
use Rattle.sim_base.specs.Ascii.{digit_0, capital_a, quotation_mark, backslash, line_feed, carriage_return, tab, space, delete}

-- a digit of base 16, in upper case
abbrev pub hex_digit : ℕ → ℕ
hex_digit n = if nat_lt n 10 then digit_0 + n else capital_a + (n - 10)

-- `\x` and two digits of base 16
abbrev pub hex_escape : ℕ → List ℕ
hex_escape c = codes "\\x" ++ (hex_digit (c / 16) ∷ hex_digit (c % 16) ∷ [])

-- a character between double quotes: `\"`, `\\`, `\n`, `\r`, `\t`, other control characters as `\xHH`, else itself
abbrev pub escaped : ℕ → List ℕ
escaped c =
    if c == quotation_mark then codes "\\\""
    else (if c == backslash then codes "\\\\"
    else (if c == line_feed then codes "\\n"
    else (if c == carriage_return then codes "\\r"
    else (if c == tab then codes "\\t"
    else (if nat_lt c space || c == delete then hex_escape c
    else encode_utf8 c)))))

-- a text between double quotes
unfoldable pub quoted : List ℕ → List ℕ
quoted text = codes "\"" ++ (flat_map escaped (chars text) ++ codes "\"")
