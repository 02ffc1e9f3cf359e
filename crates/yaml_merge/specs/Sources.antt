-- The pairs that a value gives where it is merged.
use Rattle.std.specs.Prelude.{List, [], ◌∷◌, ◌++◌}
use Rattle.yaml_tree.specs.Said.{Said}
use Rattle.yaml_tree.specs.Said.Said.{with_item, with_pair}
use Rattle.yaml_merge.specs.declared.plain.Pair.{Pair}

-- the pairs of a mapping
abbrev pub pairs_of : Said → List Pair
pairs_of (with_pair before line key value) = pairs_of before ++ (record { line = line; key = key; value = value }) ∷ []
pairs_of _ = []

-- the pairs of a mapping, or those of the mappings of a sequence, one after another
abbrev pub sources : Said → List Pair
sources (with_item before value) = sources before ++ pairs_of value
sources (with_pair before line key value) = pairs_of (with_pair before line key value)
sources _ = []
