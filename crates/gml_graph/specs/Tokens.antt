-- The tokens of a text, each with the line on which it begins.
use Rattle.std.specs.Prelude.{ℕ, ◌+◌, Bool, true, false, ◌&&◌, ◌||◌, if◌then◌else◌, ◌==◌, List, [], ◌∷◌, ◌++◌}
use Rattle.sim_base.specs.Ascii.{line_feed, space, carriage_return, number_sign, quotation_mark, left_bracket, right_bracket}
use Rattle.gml_graph.specs.declared.token.Token.{Token}
use Rattle.gml_graph.specs.declared.token.Token.TheVariants.{Text, Open, Close, Unclosed}
use Rattle.gml_graph.specs.declared.token.Lexeme.{Lexeme}
use Rattle.gml_graph.specs.Number.{begins_with}
use Rattle.gml_graph.specs.Token.{word_token, quoted}

-- the end of a line; a CR directly before it belongs to it
abbrev pub is_line_feed : ℕ → Bool
is_line_feed b = b == line_feed

abbrev pub is_blank : ℕ → List ℕ → Bool
is_blank b rest = b == space || (b == carriage_return && begins_with is_line_feed rest)

abbrev pub is_hash : ℕ → Bool
is_hash b = b == number_sign

abbrev pub is_quote : ℕ → Bool
is_quote b = b == quotation_mark

abbrev pub is_open : ℕ → Bool
is_open b = b == left_bracket

abbrev pub is_close : ℕ → Bool
is_close b = b == right_bracket

-- Spaces, line ends, brackets and quotes end a word.
abbrev pub ends_word : ℕ → List ℕ → Bool
ends_word b rest = is_blank b rest || (is_line_feed b || (is_open b || (is_close b || is_quote b)))

-- Where a byte stands: between tokens (and whether only spaces stand before it on its line), in a word behind these bytes,
-- in a text that began at a line behind these bytes, or in a comment.
pub data LexerState : Type 0 where
  between : (fresh : Bool) → LexerState
  in_word : (before : List ℕ) → LexerState
  in_text : (line : ℕ) → (before : List ℕ) → LexerState
  in_comment : LexerState

abbrev pub lexeme : ℕ → Token → Lexeme
lexeme line token = record { line = line; token = token }

-- the state behind a byte that stands in no word, text or comment: a comment begins its line
abbrev pub state_behind : Bool → ℕ → ℕ → List ℕ → LexerState
state_behind fresh line b rest =
    if is_blank b rest then between fresh
    else (if is_line_feed b then between true
    else (if is_hash b && fresh then in_comment
    else (if is_open b || is_close b then between false
    else (if is_quote b then in_text line []
    else in_word (b ∷ [])))))

-- the state behind a byte
abbrev pub next_state : LexerState → ℕ → ℕ → List ℕ → LexerState
next_state (between fresh) line b rest = state_behind fresh line b rest
next_state (in_word before) line b rest = if ends_word b rest then state_behind false line b rest else in_word (before ++ b ∷ [])
next_state (in_text start before) line b rest = if is_quote b then between false else in_text start (before ++ b ∷ [])
next_state in_comment line b rest = if is_line_feed b then between true else in_comment

abbrev pub next_line : ℕ → ℕ → ℕ
next_line line b = if is_line_feed b then line + 1 else line

abbrev pub brackets : ℕ → ℕ → List Lexeme
brackets line b = if is_open b then lexeme line Open ∷ [] else (if is_close b then lexeme line Close ∷ [] else [])

-- the tokens that end with a byte
abbrev pub ended : LexerState → ℕ → ℕ → List ℕ → List Lexeme
ended (between fresh) line b rest = brackets line b
ended (in_word before) line b rest = if ends_word b rest then lexeme line (word_token before) ∷ brackets line b else []
ended (in_text start before) line b rest = if is_quote b then lexeme start (Text (quoted before)) ∷ [] else []
ended in_comment line b rest = []

-- the token that the end of the text ends; a text without its second quote is no text
abbrev pub ended_last : LexerState → ℕ → List Lexeme
ended_last (between fresh) line = []
ended_last (in_word before) line = lexeme line (word_token before) ∷ []
ended_last (in_text start before) line = lexeme start Unclosed ∷ []
ended_last in_comment line = []

-- the tokens from a state on
abbrev pub tokens_from : LexerState → ℕ → List ℕ → List Lexeme
tokens_from state line [] = ended_last state line
tokens_from state line (b ∷ rest) = ended state line b rest ++ tokens_from (next_state state line b rest) (next_line line b) rest

-- the tokens of a text
abbrev pub tokens : List ℕ → List Lexeme
tokens text = tokens_from (between true) 1 text
