-- The entries of a mapping as a list.
use Rattle.std.specs.Prelude.{ℕ, Bool, List, ◌==◌, is_some}
use Rattle.std.specs.Cmp.Lexicographic.{pointwise}
use Rattle.std.specs.Map.{lookup}
use Rattle.indexmap.specs.IndexMap.{insert_entry}
use Rattle.yaml_tree.specs.declared.entries.Child.{Child}

abbrev pub has_key : List ℕ → List (List ℕ × Child) → Bool
has_key key entries = is_some (lookup (pointwise ◌==◌ key) entries)

-- a new key goes last, and one that is there takes the new value
abbrev pub with_entry : List (List ℕ × Child) → List ℕ → Child → List (List ℕ × Child)
with_entry entries key child = insert_entry (pointwise ◌==◌) entries key child
