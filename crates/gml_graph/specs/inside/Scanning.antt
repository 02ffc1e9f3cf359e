-- How far a word goes.
use Rattle.std.specs.Prelude.{ℕ, ◌+◌, if◌then◌else◌, List, [], ◌∷◌}
use Rattle.gml_graph.specs.Tokens.{ends_word}

-- how many bytes stand before the first that ends a word
abbrev pub word_len : List ℕ → ℕ
word_len [] = 0
word_len (b ∷ rest) = if ends_word b rest then 0 else 1 + word_len rest
