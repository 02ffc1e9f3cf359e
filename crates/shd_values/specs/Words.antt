-- The words of a command line: what stands between spaces. Between quotes, '..' or "..", and behind a backslash outside of
-- them, each character stands for itself. This is a part of how a shell splits words (IEEE Std 1003.1, XCU 2.2), in this
-- project's own profile.
use Rattle.std.specs.Prelude.{ℕ, ◌==◌, if◌then◌else◌, List, [], ◌++◌, Option, Some, None, encode_utf8, unwrap_or, fold}
use Rattle.std.specs.Option.{option_to_list}
use Rattle.std.specs.Str.{chars}
use Rattle.sim_base.specs.Ascii.{space, apostrophe, quotation_mark, backslash}
use Rattle.shd_values.specs.declared.words.Quote.{Quote}
use Rattle.shd_values.specs.declared.words.Quote.TheVariants.{Outside, Escaped, Single, Double}
use Rattle.shd_values.specs.declared.words.Splitting.{Splitting}

-- the word with one character more; a word that has not begun begins
abbrev pub with_character : Option (List ℕ) → ℕ → Option (List ℕ)
with_character word c = Some (unwrap_or word [] ++ encode_utf8 c)

-- a quote begins a word too, which may stay empty
abbrev pub begun : Option (List ℕ) → Option (List ℕ)
begun word = Some (unwrap_or word [])

-- what holds of the characters so far: the words that have ended, the one that has begun, and whether a quote is open
abbrev pub next_outside : Splitting → ℕ → Splitting
next_outside s c =
    if c == space then record s { words = s.words ++ option_to_list s.word; word = None }
    else (if c == apostrophe then record s { word = begun s.word; quote = Single }
    else (if c == quotation_mark then record s { word = begun s.word; quote = Double }
    else (if c == backslash then record s { quote = Escaped }
    else record s { word = with_character s.word c })))

-- a quote ends at its like
abbrev pub next_quoted : ℕ → Splitting → ℕ → Splitting
next_quoted end s c = if c == end then record s { quote = Outside } else record s { word = with_character s.word c }

abbrev pub next_at : Quote → Splitting → ℕ → Splitting
next_at Outside s c = next_outside s c
next_at Escaped s c = record s { word = with_character s.word c; quote = Outside }
next_at Single s c = next_quoted apostrophe s c
next_at Double s c = next_quoted quotation_mark s c

abbrev pub next : Splitting → ℕ → Splitting
next s c = next_at s.quote s c

abbrev pub start : Splitting
start = record { words = []; word = None; quote = Outside }

-- the words, or nothing where a quote isn't closed or a backslash stands last
abbrev pub finished_at : Quote → Splitting → Option (List (List ℕ))
finished_at Outside s = Some (s.words ++ option_to_list s.word)
finished_at Escaped s = None
finished_at Single s = None
finished_at Double s = None

abbrev pub finished : Splitting → Option (List (List ℕ))
finished s = finished_at s.quote s

-- the words of a text, or nothing where it isn't of this form
abbrev pub words_of : List ℕ → Option (List (List ℕ))
words_of text = finished (fold next start (chars text))
