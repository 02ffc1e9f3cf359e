-- The merged tree. In place of a pair with the key `<<`, whose value is a mapping or a sequence of mappings, stand the pairs
-- of that mapping, or of those, that the mapping doesn't have itself (the merge key of YAML 1.1, in this project's own
-- profile).
use Rattle.std.specs.Prelude.{ℕ, ◌+◌, Bool, true, false, ◌&&◌, ◌||◌, not, ◌==◌, if◌then◌else◌, List, [], ◌∷◌, ◌++◌, Result, Ok, Err, codes}
use Rattle.std.specs.Cmp.Lexicographic.{pointwise}
use Rattle.std.specs.Fmt.{decimal}
use Rattle.sim_base.specs.Refusals.{◌>>=◌}
use Rattle.std.specs.List.{list_any}
use Rattle.yaml_tree.specs.Said.{Said}
use Rattle.yaml_tree.specs.Said.Said.{null, text, unknown, sequence, mapping, with_item, with_pair}
use Rattle.yaml_tree.specs.Holds.{is_mapping}
use Rattle.yaml_merge.specs.Rows.{with_pairs}
use Rattle.yaml_merge.specs.Sources.{sources}
use Rattle.yaml_merge.specs.declared.plain.Pair.{Pair}
use Rattle.yaml_merge.specs.declared.fault.MergeFault.{MergeFault}

-- <<
abbrev pub is_merge_key : List ℕ → Bool
is_merge_key key = pointwise ◌==◌ key (codes "<<")

abbrev pub are_mappings : Said → Bool
are_mappings (sequence line) = true
are_mappings (with_item before value) = are_mappings before && is_mapping value
are_mappings _ = false

-- a mapping, or a sequence of mappings
abbrev pub may_merge : Said → Bool
may_merge value = is_mapping value || are_mappings value

-- whether a key is among these
abbrev pub has : List ℕ → List (List ℕ) → Bool
has key keys = list_any (pointwise ◌==◌ key) keys

-- whether a merge key stands anywhere in a tree
abbrev pub has_merge_key : Said → Bool
has_merge_key (with_item before value) = has_merge_key before || has_merge_key value
has_merge_key (with_pair before line key value) = has_merge_key before || (is_merge_key key || has_merge_key value)
has_merge_key _ = false

-- the keys that a mapping has itself
abbrev pub keys_of : Said → List (List ℕ)
keys_of (with_pair before line key value) = keys_of before ++ key ∷ []
keys_of _ = []

-- the pairs that are merged: those whose key neither these keys nor the earlier merged pairs have
abbrev pub new_pairs : List (List ℕ) → List Pair → List Pair
new_pairs taken [] = []
new_pairs taken (p ∷ ps) = if has p.key taken then new_pairs taken ps else p ∷ new_pairs (taken ++ p.key ∷ []) ps

-- a fault below a node has a path that begins at the node's place, with a point behind a mapping's
abbrev pub fault_below : List ℕ → Bool → MergeFault → MergeFault
fault_below place keyed f = record f { path = place ++ (if keyed then codes "." else []) ++ f.path }

abbrev pub below : {A : Type 0} → List ℕ → Said → Result A MergeFault → Result A MergeFault
below place value (Ok x) = Ok x
below place value (Err f) = Err (fault_below place (is_mapping value) f)

abbrev pub item_count : Said → ℕ
item_count (with_item before value) = item_count before + 1
item_count _ = 0

-- the place of an item, as `[0]`
abbrev pub item_place : ℕ → List ℕ
item_place n = codes "[" ++ decimal n ++ codes "]"

-- a pair behind the rows so far of a whole mapping
abbrev pub put_value : Said → Said → ℕ → List ℕ → Said → Said
put_value whole before line key v = if is_merge_key key then with_pairs before (new_pairs (keys_of whole) (sources v)) else with_pair before line key v

-- the same; its value as it is read, merged itself, is given as well
abbrev pub with_merged : Said → Said → ℕ → List ℕ → Said → Result Said MergeFault → Result Said MergeFault
with_merged whole before line key value read =
    if is_merge_key key && not (may_merge value) then Err (record { line = line; path = key })
    else (below key value read >>= λ v. Ok (put_value whole before line key v))

-- the rows of a whole collection, merged, or the first wrong value of a merge key
abbrev pub merged_rows : Said → Said → Result Said MergeFault
merged_rows whole (with_item before value) = do
  b ← merged_rows whole before
  v ← below (item_place (item_count before)) value (merged_rows value value)
  Ok (with_item b v)
merged_rows whole (with_pair before line key value) = do
  b ← merged_rows whole before
  with_merged whole b line key value (merged_rows value value)
merged_rows whole (null line) = Ok (null line)
merged_rows whole (text line bytes) = Ok (text line bytes)
merged_rows whole (unknown line) = Ok (unknown line)
merged_rows whole (sequence line) = Ok (sequence line)
merged_rows whole (mapping line) = Ok (mapping line)

-- the tree with the pairs that it merges, or its first fault in document order: the line and the path of a merge key with a
-- wrong value
unfoldable pub merged : Said → Result Said MergeFault
merged tree = merged_rows tree tree
