-- Which nodes by number hold a tree: each node with the line on which it begins. An alias may be held by the node that
-- it is an alias of. An alias of an unknown node is held by a null; no accepted tree has one.
use Rattle.std.specs.Prelude.{◌≡◌, ℕ, Bool, true, false, List, [], ◌∷◌, ◌++◌, Option, Some, None, if◌then◌else◌, slice_get}
use Rattle.yaml_tree.specs.Entries.{with_entry}
use Rattle.yaml_tree.specs.Said.{Said}
use Rattle.yaml_tree.specs.Said.Said.{null, text, unknown, sequence, mapping, with_item, with_pair}
use Rattle.yaml_tree.specs.declared.entries.Child.{Child}
use Rattle.yaml_tree.specs.declared.node.Node.{Node}
use Rattle.yaml_tree.specs.declared.node.Value.{Value}
use Rattle.yaml_tree.specs.declared.node.Value.TheVariants.{Null, Text, Sequence, Mapping}

abbrev pub scalar_value : Option (List ℕ) → Value
scalar_value None = Null
scalar_value (Some bytes) = Text bytes

-- the rows of a collection by the numbers of their values' nodes: the items of a sequence, the entries of a mapping
pub record Rows : Type 0 where
  pub items : List ℕ
  pub entries : List (List ℕ × Child)

abbrev pub no_rows : Rows
no_rows = record { items = []; entries = [] }

-- one row more at the end
abbrev pub with_row : Bool → ℕ → List ℕ → ℕ → Rows → Rows
with_row keyed line key n rows = record { items = if keyed then rows.items else rows.items ++ n ∷ []; entries = if keyed then with_entry rows.entries key (record { line = line; node = n }) else rows.entries }

abbrev pub rows_value : Bool → Rows → Value
rows_value keyed rows = if keyed then Mapping rows.entries else Sequence rows.items

abbrev pub IsNode : List Node → ℕ → ℕ → Value → Type 0
IsNode nodes n line value = slice_get nodes n ≡ Some (record { line = line; value = value })

abbrev pub is_mapping : Said → Bool
is_mapping (mapping line) = true
is_mapping (with_pair before line key value) = true
is_mapping _ = false

-- the line on which a collection begins
abbrev pub begins_on : Said → ℕ
begins_on (null line) = line
begins_on (text line bytes) = line
begins_on (unknown line) = line
begins_on (sequence line) = line
begins_on (mapping line) = line
begins_on (with_item before value) = begins_on before
begins_on (with_pair before line key value) = begins_on before

-- node n is this collection, of such rows
abbrev pub IsCollection : List Node → Said → Rows → ℕ → Type 0
IsCollection nodes tree rows n = IsNode nodes n (begins_on tree) (rows_value (is_mapping tree) rows)

abbrev mutual
  -- node n holds the tree
  pub HoldsSaid : List Node → Said → ℕ → Type 0
  HoldsSaid nodes (null line) n = IsNode nodes n line Null
  HoldsSaid nodes (text line bytes) n = IsNode nodes n line (Text bytes)
  HoldsSaid nodes (unknown line) n = IsNode nodes n line Null
  HoldsSaid nodes (sequence line) n = IsCollection nodes (sequence line) no_rows n
  HoldsSaid nodes (mapping line) n = IsCollection nodes (mapping line) no_rows n
  HoldsSaid nodes (with_item before value) n = (rows : Rows) × (m : ℕ) × HoldsRows nodes before rows × HoldsSaid nodes value m
      × IsCollection nodes (with_item before value) (with_row false 0 [] m rows) n
  HoldsSaid nodes (with_pair before line key value) n = (rows : Rows) × (m : ℕ) × HoldsRows nodes before rows × HoldsSaid nodes value m
      × IsCollection nodes (with_pair before line key value) (with_row true line key m rows) n

  -- the nodes hold the values of these rows
  pub HoldsRows : List Node → Said → Rows → Type 0
  HoldsRows nodes (null line) rows = ⊥
  HoldsRows nodes (text line bytes) rows = ⊥
  HoldsRows nodes (unknown line) rows = ⊥
  HoldsRows nodes (sequence line) rows = rows ≡ no_rows
  HoldsRows nodes (mapping line) rows = rows ≡ no_rows
  HoldsRows nodes (with_item before value) rows = (old : Rows) × (m : ℕ) × HoldsRows nodes before old × HoldsSaid nodes value m × (rows ≡ with_row false 0 [] m old)
  HoldsRows nodes (with_pair before line key value) rows = (old : Rows) × (m : ℕ) × HoldsRows nodes before old × HoldsSaid nodes value m × (rows ≡ with_row true line key m old)
