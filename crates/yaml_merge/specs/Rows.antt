-- Rows behind those of a collection.
use Rattle.std.specs.Prelude.{List, [], ◌∷◌}
use Rattle.yaml_tree.specs.Said.{Said}
use Rattle.yaml_tree.specs.Said.Said.{with_item, with_pair}
use Rattle.yaml_merge.specs.declared.plain.Pair.{Pair}

-- items behind those before
abbrev pub with_items : Said → List Said → Said
with_items before [] = before
with_items before (x ∷ xs) = with_items (with_item before x) xs

-- pairs behind those before
abbrev pub with_pairs : Said → List Pair → Said
with_pairs before [] = before
with_pairs before (p ∷ ps) = with_pairs (with_pair before p.line p.key p.value) ps
