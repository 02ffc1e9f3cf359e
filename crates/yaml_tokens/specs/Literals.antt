-- Literal blocks: `|`, `|-` and `|+` with the lines behind them, as this project's own profile of YAML 1.2 (8.1.2)
-- has them.
use Rattle.std.specs.Prelude.{ℕ, ◌-◌, Bool, false, List, [], ◌∷◌, ◌++◌, Option, Some, None, if◌then◌else◌, ◌==◌, length, take, drop}
use Rattle.std.specs.List.{prefix_len, suffix_len}
use Rattle.std.specs.Char.{is_ascii_digit}
use Rattle.sim_base.specs.Ascii.{line_feed, plus_sign, hyphen}
use Rattle.yaml_tokens.specs.Lines.{begins_with}
use Rattle.yaml_tokens.specs.Scalars.{is_space, after_spaces, is_nothing}
use Rattle.yaml_tokens.specs.declared.chomp.Chomp.{Chomp}
use Rattle.yaml_tokens.specs.declared.chomp.Chomp.TheVariants.{Clip, Strip, Keep}

-- what stands behind the bar
abbrev pub chomp_at : List ℕ → Chomp
chomp_at bytes = if begins_with hyphen bytes then Strip else (if begins_with plus_sign bytes then Keep else Clip)

abbrev pub chomp_len : Chomp → ℕ
chomp_len Clip = 0
chomp_len Strip = 1
chomp_len Keep = 1

abbrev pub is_digit_first : List ℕ → Bool
is_digit_first [] = false
is_digit_first (b ∷ _) = is_ascii_digit b

abbrev pub is_blank : List ℕ → Bool
is_blank line = is_nothing (after_spaces line)

abbrev pub indent : List ℕ → ℕ
indent line = prefix_len is_space line

-- The block's column is that of its first line that isn't blank.
abbrev pub block_column : List (List ℕ) → Option ℕ
block_column [] = None
block_column (line ∷ lines) = if is_blank line then block_column lines else Some (indent line)

-- A line from the block's column on: spaces past it are kept. In a block of blank lines alone each line is empty.
abbrev pub line_from : Option ℕ → List ℕ → List ℕ
line_from None line = []
line_from (Some column) line = drop column line

-- the lines from a column on, each with its end
abbrev pub joined : Option ℕ → List (List ℕ) → List ℕ
joined column [] = []
joined column (line ∷ lines) = line_from column line ++ (line_feed ∷ joined column lines)

abbrev pub is_feed : ℕ → Bool
is_feed b = b == line_feed

abbrev pub without_feeds : List ℕ → List ℕ
without_feeds bytes = take (length bytes - suffix_len is_feed bytes) bytes

abbrev pub with_feed : List ℕ → List ℕ
with_feed bytes = if is_nothing bytes then [] else bytes ++ (line_feed ∷ [])

abbrev pub chomped : Chomp → List ℕ → List ℕ
chomped Clip bytes = with_feed (without_feeds bytes)
chomped Strip bytes = without_feeds bytes
chomped Keep bytes = bytes

-- the text of a block
abbrev pub block_text : Chomp → List (List ℕ) → List ℕ
block_text chomp lines = chomped chomp (joined (block_column lines) lines)
