-- How a text is spelled in quotes on one line, as this project's own profile of YAML 1.2 has it: in single quotes
-- (7.3.2), and in double quotes (7.3.1) with their escapes (5.7).
use Rattle.std.specs.Prelude.{◌≡◌, ◌≢◌, ◌⊎◌, ℕ, ◌+◌, ◌*◌, false, List, [], ◌∷◌, ◌++◌, Option, Some, None, if◌then◌else◌, ◌==◌, length, flat_map, option_and_then, encode_utf8}
use Rattle.std.specs.List.{AllByRecursion}
use Rattle.sim_base.specs.Ascii.{apostrophe, backslash, quotation_mark, small_u, small_x}
use Rattle.yaml_tokens.specs.Lines.{begins_with}
use Rattle.yaml_tokens.specs.Scalars.{escaped_byte, hex_value, is_surrogate}

-- ---- in single quotes

-- each quote of the text twice, and every other byte once
abbrev pub single_spelling : List ℕ → List ℕ
single_spelling text = flat_map (λ b. if b == apostrophe then apostrophe ∷ apostrophe ∷ [] else b ∷ []) text

-- The bytes begin with the text in single quotes, which take so many bytes, and no third quote stands behind.
pub record IsSingleQuoted (bytes text : List ℕ) (len : ℕ) : Type 0 where
  pub rest : List ℕ
  pub spelled : bytes ≡ apostrophe ∷ (single_spelling text ++ apostrophe ∷ rest)
  pub closed : begins_with apostrophe rest ≡ false
  pub counted : len ≡ length (single_spelling text) + 2

-- ---- in double quotes

-- A part of what stands between double quotes: a byte that stands for itself; a letter behind a backslash, with the
-- byte that it stands for; or a letter behind a backslash and digits, with the number of their character.
pub data Part : Type 0 where
  Itself : ℕ → Part
  Escaped : ℕ → ℕ → Part
  Numbered : ℕ → List ℕ → ℕ → Part

-- how many digits stand behind the letter: `\xHH`, `\uHHHH`
abbrev pub digits_behind : ℕ → Option ℕ
digits_behind letter = if letter == small_x then Some 2 else (if letter == small_u then Some 4 else None)

-- the number that hexadecimal digits spell behind those that made the first number
unfoldable pub number_behind : ℕ → List ℕ → Option ℕ
number_behind n [] = Some n
number_behind n (b ∷ digits) = option_and_then (λ d. number_behind (n * 16 + d) digits) (hex_value b)

-- No quote and no backslash stands for itself. The others are escapes of the profile, and their number is a
-- character's.
abbrev pub IsPart : Part → Type 0
IsPart (Itself b) = (b ≢ quotation_mark) × (b ≢ backslash)
IsPart (Escaped letter b) = escaped_byte letter ≡ Some b
IsPart (Numbered letter digits n) = (digits_behind letter ≡ Some (length digits)) × (number_behind 0 digits ≡ Some n) × (is_surrogate n ≡ false)

abbrev pub spelling : Part → List ℕ
spelling (Itself b) = b ∷ []
spelling (Escaped letter b) = backslash ∷ letter ∷ []
spelling (Numbered letter digits n) = backslash ∷ letter ∷ digits

abbrev pub meaning : Part → List ℕ
meaning (Itself b) = b ∷ []
meaning (Escaped letter b) = b ∷ []
meaning (Numbered letter digits n) = encode_utf8 n

-- The bytes begin with parts in double quotes, which take so many bytes and mean the text.
pub record IsDoubleQuoted (bytes text : List ℕ) (len : ℕ) : Type 0 where
  pub parts : List Part
  pub rest : List ℕ
  pub each : AllByRecursion IsPart parts
  pub spelled : bytes ≡ quotation_mark ∷ (flat_map spelling parts ++ quotation_mark ∷ rest)
  pub meant : text ≡ flat_map meaning parts
  pub counted : len ≡ length (flat_map spelling parts) + 2

-- ---- either

abbrev pub IsQuoted : List ℕ → List ℕ → ℕ → Type 0
IsQuoted bytes text len = IsSingleQuoted bytes text len ⊎ IsDoubleQuoted bytes text len
