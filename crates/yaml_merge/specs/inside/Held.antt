-- What nodes hold of a plain tree.
use Rattle.std.specs.Prelude.{◌<◌, ℕ, Bool, true, false, List, [], Option, Some, None, map, slice_get, if◌then◌else◌}
use Rattle.std.specs.List.{list_all}
use Rattle.std.specs.Str.{is_utf8}
use Rattle.yaml_tree.specs.Said.{Said, levels}
use Rattle.yaml_tree.specs.Holds.{HoldsSaid}
use Rattle.yaml_tree.specs.declared.entries.Child.{Child}
use Rattle.yaml_tree.specs.declared.node.Node.{Node}
use Rattle.yaml_tree.specs.declared.node.Value.{Value}
use Rattle.yaml_tree.specs.declared.node.Value.TheVariants.{Null, Text, Sequence, Mapping}
use Rattle.yaml_merge.specs.Plainness.{IsPlain}

-- node n holds this plain tree, which has fewer levels than these
pub record HoldsPlain (most : ℕ) (nodes : List Node) (n : ℕ) (tree : Said) : Type 0 where
  pub held : HoldsSaid nodes tree n
  pub plain : IsPlain tree
  pub shallow : levels tree < most

-- bytes that aren't UTF-8 count as the empty text
abbrev pub valid_text : List ℕ → List ℕ
valid_text bytes = if is_utf8 bytes then bytes else []

abbrev pub keys_in : List (List ℕ × Child) → List (List ℕ)
keys_in entries = map (λ e. e.0) entries

abbrev pub is_mapping_value : Value → Bool
is_mapping_value Null = false
is_mapping_value (Text bytes) = false
is_mapping_value (Sequence numbers) = false
is_mapping_value (Mapping entries) = true

abbrev pub is_mapping_node : Option Node → Bool
is_mapping_node None = false
is_mapping_node (Some node) = is_mapping_value node.value

-- whether node n is a mapping
abbrev pub is_mapping_at : List Node → ℕ → Bool
is_mapping_at nodes n = is_mapping_node (slice_get nodes n)

-- whether a value is a mapping or a sequence of mappings
abbrev pub may_merge_value : List Node → Value → Bool
may_merge_value nodes Null = false
may_merge_value nodes (Text bytes) = false
may_merge_value nodes (Sequence numbers) = list_all (is_mapping_at nodes) numbers
may_merge_value nodes (Mapping entries) = true
