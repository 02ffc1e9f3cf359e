-- times and rates as texts (the list of units is this project's own profile)
use Rattle.std.specs.Prelude.{ℕ, ◌*◌, ◌^◌, ◌==◌, Bool, List, [], ◌∷◌, Option, Some, None, option_and_then, codes, map, take_while, drop, nat_lt, if◌then◌else◌}
use Rattle.std.specs.Char.{is_ascii_digit}
use Rattle.std.specs.List.{prefix_len}
use Rattle.std.specs.Str.{bytes_eq, str_eq_ignore_ascii_case}
use Rattle.std.specs.Str.Parse.{digits_value}
use Rattle.std.specs.Borrow.{Bor}
use Rattle.sim_base.specs.Ascii.{space}
use Rattle.sim_base.specs.Units.{microsecond, millisecond, second, minute, hour}
use Rattle.base_texts.specs.declared.quantity.Letters.{Letters}
use Rattle.base_texts.specs.declared.quantity.Letters.TheVariants.{AsWritten, InEitherCase}

infixl 10 ◌>>=◌
abbrev pub ◌>>=◌ : {A B : Type 0} → Option A → (A → Option B) → Option B
o >>= f = option_and_then f o

-- names of units, with the number of the smallest unit that each stands for
abbrev pub Units : Type 0
Units = List (List ℕ × ℕ)

-- the table of a program's constant
abbrev pub table : List (Bor (List ℕ) × ℕ) → Units
table rows = map (λ row. (row.0.now, row.1)) rows

abbrev pub same_name : Letters → List ℕ → List ℕ → Bool
same_name AsWritten a b = bytes_eq a b
same_name InEitherCase a b = str_eq_ignore_ascii_case a b

-- the number that a unit stands for, if the table has its name
abbrev pub factor_in : (List ℕ → List ℕ → Bool) → Units → List ℕ → Option ℕ
factor_in same [] unit = None
factor_in same (row ∷ rows) unit = if same row.0 unit then Some row.1 else factor_in same rows unit

abbrev pub in_64_bits : ℕ → Option ℕ
in_64_bits n = if nat_lt n (2 ^ 64) then Some n else None

-- the digits that a text begins with
abbrev pub digits_of_text : List ℕ → List ℕ
digits_of_text text = take_while is_ascii_digit text

abbrev pub some_digits : List ℕ → Option (List ℕ)
some_digits [] = None
some_digits (digit ∷ digits) = Some (digit ∷ digits)

-- what stands behind the digits and the spaces after them
abbrev pub unit_of_text : List ℕ → List ℕ
unit_of_text text =
    let rest = drop (prefix_len is_ascii_digit text) text in
    drop (prefix_len (λ c. c == space) rest) rest

-- a whole number, spaces, and a unit or none; nothing for other texts, and past 64 bits
abbrev pub quantity : (List ℕ → List ℕ → Bool) → Units → List ℕ → Option ℕ
quantity same units text = do
  digits ← some_digits (digits_of_text text)
  number ← in_64_bits (digits_value 10 digits)
  factor ← factor_in same units (unit_of_text text)
  in_64_bits (number * factor)

-- the nanoseconds of a unit of time, seconds where none is named; the first letter of `μs` is U+03BC
abbrev pub time_units : Units
time_units =
    ([], second)
    ∷ (codes "ns", 1)
    ∷ (codes "nanosecond", 1)
    ∷ (codes "nanoseconds", 1)
    ∷ (codes "us", microsecond)
    ∷ (206 ∷ 188 ∷ codes "s", microsecond)
    ∷ (codes "microsecond", microsecond)
    ∷ (codes "microseconds", microsecond)
    ∷ (codes "ms", millisecond)
    ∷ (codes "millisecond", millisecond)
    ∷ (codes "milliseconds", millisecond)
    ∷ (codes "s", second)
    ∷ (codes "sec", second)
    ∷ (codes "secs", second)
    ∷ (codes "second", second)
    ∷ (codes "seconds", second)
    ∷ (codes "m", minute)
    ∷ (codes "min", minute)
    ∷ (codes "mins", minute)
    ∷ (codes "minute", minute)
    ∷ (codes "minutes", minute)
    ∷ (codes "h", hour)
    ∷ (codes "hr", hour)
    ∷ (codes "hrs", hour)
    ∷ (codes "hour", hour)
    ∷ (codes "hours", hour) ∷ []

-- the bits a second of a unit of rate, bits where none is named
abbrev pub rate_units : Units
rate_units =
    ([], 1)
    ∷ (codes "bit", 1)
    ∷ (codes "kbit", 1000)
    ∷ (codes "kilobit", 1000)
    ∷ (codes "mbit", 1000000)
    ∷ (codes "megabit", 1000000)
    ∷ (codes "gbit", 1000000000)
    ∷ (codes "gigabit", 1000000000)
    ∷ (codes "kibit", 1024)
    ∷ (codes "kibibit", 1024)
    ∷ (codes "mibit", 1048576)
    ∷ (codes "mebibit", 1048576)
    ∷ (codes "gibit", 1073741824)
    ∷ (codes "gibibit", 1073741824) ∷ []

-- the nanoseconds that a text means
abbrev pub time_of_text : List ℕ → Option ℕ
time_of_text text = quantity bytes_eq time_units text

-- the bits a second that a text means, in letters of either case
abbrev pub rate_of_text : List ℕ → Option ℕ
rate_of_text text = quantity str_eq_ignore_ascii_case rate_units text
