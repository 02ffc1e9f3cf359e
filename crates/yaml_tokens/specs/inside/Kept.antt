-- What is kept of a text.
use Rattle.std.specs.Prelude.{ℕ, List, [], Option, Some, None, take}
use Rattle.yaml_tokens.specs.declared.kept.Kept.{Kept}
use Rattle.yaml_tokens.specs.declared.kept.Kept.TheVariants.{Nothing, Short, Long}

-- the text, if there is one
abbrev pub text_of : Kept → Option (List ℕ)
text_of Nothing = None
text_of (Short len bytes) = Some (take len bytes)
text_of (Long bytes) = Some bytes.value.items

-- no text has no bytes
abbrev pub bytes_in : Option (List ℕ) → List ℕ
bytes_in None = []
bytes_in (Some bytes) = bytes

abbrev pub bytes_of : Kept → List ℕ
bytes_of kept = bytes_in (text_of kept)
