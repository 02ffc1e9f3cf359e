-- Each node is less high than the one that holds it.
use Rattle.std.specs.Prelude.{ℕ, ◌+◌, ◌≤◌, max, List, [], ◌∷◌}
use Rattle.std.proofs.Common.{arith}
use denote.Param.Weighed.{most}
use Rattle.yaml_tree.specs.Said.{Said}
use Rattle.yaml_tree.specs.Said.Said.{sequence, mapping, with_item, with_pair}
use Rattle.yaml_merge.specs.declared.plain.Inner.{Inner}
use Rattle.yaml_merge.specs.declared.plain.Inner.TheVariants.{Null, Text, Sequence, Mapping}
use Rattle.yaml_merge.specs.declared.plain.Pair.{Pair}
use Rattle.yaml_merge.specs.declared.plain.Plain.TheDeep.{deep-Inner, deep-Pair}
use Rattle.yaml_merge.specs.inside.Inner.{said_of}
use Rattle.yaml_merge.specs.Rows.{with_items, with_pairs}
use Rattle.yaml_merge.specs.inside.Height.{height}

items_high : (xs : List Said) (before : Said) → height before ≤ height (with_items before xs)
items_high [] before = omega arith
items_high (x ∷ xs) before = omega (arith, items_high xs (with_item before x))

items_fall : (xs : List Said) (before : Said) → most (λ k. height k + 1) xs ≤ height (with_items before xs)
items_fall [] before = omega arith
items_fall (x ∷ xs) before = omega (arith, items_fall xs (with_item before x), items_high xs (with_item before x))

pairs_high : (ps : List Pair) (before : Said) → height before ≤ height (with_pairs before ps)
pairs_high [] before = omega arith
pairs_high (p ∷ ps) before = omega (arith, pairs_high ps (with_pair before p.line p.key p.value))

pairs_fall : (ps : List Pair) (before : Said) → most deep-Pair ps ≤ height (with_pairs before ps)
pairs_fall [] before = omega arith
pairs_fall (p ∷ ps) before = omega (arith, pairs_fall ps (with_pair before p.line p.key p.value), pairs_high ps (with_pair before p.line p.key p.value))

-- no part is as high as the whole
pub falls : (line : ℕ) (inner : Inner) → max (deep-Inner inner) 0 ≤ height (said_of line inner)
falls line Null = omega arith
falls line (Text t) = omega arith
falls line (Sequence v) = omega (arith, items_fall v.items (sequence line))
falls line (Mapping v) = omega (arith, pairs_fall v.items (mapping line))
