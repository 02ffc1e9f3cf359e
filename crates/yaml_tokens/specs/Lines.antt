-- The lines of a text: each ends at a line feed, or at the text's end. A byte order mark at the start and a
-- carriage return before a line feed are passed over (YAML 1.2, 5.2 and 5.4).
use Rattle.std.specs.Prelude.{ℕ, Bool, false, not, ◌&&◌, List, [], ◌∷◌, if◌then◌else◌, ◌==◌, drop, length, nat_eq}
use Rattle.std.specs.List.{starts_with}
use Rattle.sim_base.specs.Ascii.{line_feed, carriage_return}

-- whether the bytes begin with this one
abbrev pub begins_with : ℕ → List ℕ → Bool
begins_with b [] = false
begins_with b (c ∷ _) = c == b

-- the lines with a byte put before the first of them
abbrev pub byte_before : ℕ → List (List ℕ) → List (List ℕ)
byte_before b [] = (b ∷ []) ∷ []
byte_before b (line ∷ lines) = (b ∷ line) ∷ lines

unfoldable pub split_lines : List ℕ → List (List ℕ)
split_lines [] = []
split_lines (b ∷ bytes) = if b == line_feed then [] ∷ split_lines bytes
    else (if (b == carriage_return) && begins_with line_feed bytes then split_lines bytes
    else byte_before b (split_lines bytes))

-- a byte inside a line
abbrev pub is_inside : ℕ → Bool
is_inside b = not (b == line_feed)

-- a line without a carriage return at its end
unfoldable pub without_return : List ℕ → List ℕ
without_return [] = []
without_return (b ∷ []) = if b == carriage_return then [] else b ∷ []
without_return (b ∷ c ∷ bytes) = b ∷ without_return (c ∷ bytes)

abbrev pub byte_order_mark : List ℕ
byte_order_mark = 0xEF ∷ 0xBB ∷ 0xBF ∷ []

abbrev pub without_mark : List ℕ → List ℕ
without_mark text = if starts_with nat_eq text byte_order_mark then drop (length byte_order_mark) text else text

abbrev pub lines_of : List ℕ → List (List ℕ)
lines_of text = split_lines (without_mark text)
