-- Whole numbers and sizes as texts.
use Rattle.std.specs.Prelude.{ℕ, ◌*◌, ◌^◌, ◌||◌, List, [], Option, Some, None, codes, length, nat_lt, if◌then◌else◌}
use Rattle.std.specs.Char.{is_ascii_digit}
use Rattle.std.specs.List.{prefix_len}
use Rattle.std.specs.Str.{bytes_eq}
use Rattle.std.specs.Str.Parse.{digits_value}
use Rattle.base_texts.specs.Quantity.{◌>>=◌, digits_of_text, some_digits, unit_of_text}

abbrev pub in_128_bits : ℕ → Option ℕ
in_128_bits n = if nat_lt n (2 ^ 128) then Some n else None

-- the number of the digits that a text begins with
abbrev pub digits_number : List ℕ → Option ℕ
digits_number text = some_digits (digits_of_text text) >>= λ digits. in_128_bits (digits_value 10 digits)

-- a whole number: decimal digits alone; nothing for other texts, and past 128 bits
abbrev pub number_of : List ℕ → Option ℕ
number_of text = if nat_lt (prefix_len is_ascii_digit text) (length text) then None else digits_number text

-- the bytes of a unit of size, bytes where none is named
abbrev pub size_unit : List ℕ → Option ℕ
size_unit name =
    if bytes_eq name [] || bytes_eq name (codes "B") then Some 1
    else (if bytes_eq name (codes "kB") then Some 1000
    else (if bytes_eq name (codes "KiB") then Some 1024 else None))

-- a whole number, spaces, and a unit of size or none; nothing for other texts, and past 128 bits
abbrev pub size_of : List ℕ → Option ℕ
size_of text = do
  number ← digits_number text
  factor ← size_unit (unit_of_text text)
  in_128_bits (number * factor)
