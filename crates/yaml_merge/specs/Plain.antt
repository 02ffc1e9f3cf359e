-- The parts of a tree.
use Rattle.std.specs.Prelude.{ℕ, Bool, true, false, List, [], ◌∷◌, ◌++◌, Option, Some, None}
use Rattle.std.specs.Option.{option_map}
use Rattle.yaml_tree.specs.Said.{Said}
use Rattle.yaml_tree.specs.Said.Said.{null, text, unknown, sequence, mapping, with_item, with_pair}
use Rattle.yaml_merge.specs.declared.plain.Pair.{Pair}

abbrev pub line_of : Said → ℕ
line_of (null line) = line
line_of (text line bytes) = line
line_of (unknown line) = line
line_of (sequence line) = line
line_of (mapping line) = line
line_of (with_item before value) = line_of before
line_of (with_pair before line key value) = line_of before

abbrev pub is_null : Said → Bool
is_null (null line) = true
is_null _ = false

abbrev pub text_in : Said → Option (List ℕ)
text_in (text line bytes) = Some bytes
text_in _ = None

-- the items of a sequence
abbrev pub items_in : Said → Option (List Said)
items_in (sequence line) = Some []
items_in (with_item before value) = option_map (λ items. items ++ value ∷ []) (items_in before)
items_in _ = None

-- the pairs of a mapping
abbrev pub pairs_in : Said → Option (List Pair)
pairs_in (mapping line) = Some []
pairs_in (with_pair before line key value) = option_map (λ pairs. pairs ++ (record { line = line; key = key; value = value }) ∷ []) (pairs_in before)
pairs_in _ = None
