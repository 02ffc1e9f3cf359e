-- What a scanner still gives.
use Rattle.std.specs.Prelude.{ℕ, Bool, true, false, ◌&&◌, ◌||◌, not, List, [], ◌∷◌}
use Rattle.gml_graph.specs.declared.token.Lexeme.{Lexeme}
use Rattle.gml_graph.specs.declared.scanner.Scanner.{Scanner}
use Rattle.gml_graph.specs.Tokens.{tokens_from, between, is_blank, is_line_feed, is_hash, ends_word}

abbrev pub left : Scanner → List Lexeme
left s = tokens_from (between s.fresh) s.line s.rest.now

-- whether no blank, no line end and no comment stands at the front
abbrev pub begins_token : Bool → List ℕ → Bool
begins_token fresh [] = true
begins_token fresh (b ∷ rest) = not (is_blank b rest || (is_line_feed b || (is_hash b && fresh)))

abbrev pub is_at_token : Scanner → Bool
is_at_token s = begins_token s.fresh s.rest.now

-- whether a word stands at the front
abbrev pub begins_word : Bool → List ℕ → Bool
begins_word fresh [] = false
begins_word fresh (b ∷ rest) = not (ends_word b rest || (is_hash b && fresh))
