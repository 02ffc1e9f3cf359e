-- Collections that are open: their rows, and the stack that they make.
use Rattle.std.specs.Prelude.{◌≡◌, ℕ, ◌+◌, Bool, true, false, ◌&&◌, ◌||◌, List, [], ◌∷◌, ◌++◌, Option, Some, None, if◌then◌else◌, nat_le, max}
use Rattle.yaml_tree.specs.Entries.{has_key, with_entry}
use Rattle.yaml_tree.specs.Said.{Said, size, levels, has_repeat, has_unknown}
use Rattle.yaml_tree.specs.declared.node.Value.{Value}
use Rattle.yaml_tree.specs.declared.node.Value.TheVariants.{Sequence, Mapping}
use Rattle.yaml_tree.specs.declared.known.Measure.{Measure}
use Rattle.yaml_tree.specs.declared.known.KnownNode.{KnownNode}
use Rattle.yaml_tree.specs.declared.known.GivenName.{GivenName}
use Rattle.yaml_tree.specs.declared.stack.Open.{Open}
use Rattle.yaml_tree.specs.Limits.{most_tree_levels, most_tree_nodes}

-- counted to one more than the most
abbrev pub cut : ℕ → ℕ → ℕ
cut most n = if nat_le n most then n else 1 + most

-- what the limits ask of a tree
abbrev pub measured : Said → Measure
measured tree = record { size = cut most_tree_nodes (size tree); levels = cut most_tree_levels (levels tree); repeated = has_repeat tree; unknown = has_unknown tree }

-- a tree of one node
abbrev pub one_node : Measure
one_node = record { size = 1; levels = 0; repeated = false; unknown = false }

abbrev pub unknown_node : Measure
unknown_node = record { size = 1; levels = 0; repeated = false; unknown = true }

-- a collection without rows
abbrev pub no_row : Measure
no_row = record { size = 1; levels = 1; repeated = false; unknown = false }

-- the rows of a collection, and a value more
abbrev pub with_part : Measure → Measure → Measure
with_part rows value = record { size = cut most_tree_nodes (rows.size + value.size); levels = max rows.levels (cut most_tree_levels (1 + value.levels)); repeated = rows.repeated || value.repeated; unknown = rows.unknown || value.unknown }

abbrev pub with_repeat : Bool → Measure → Measure
with_repeat repeated m = record m { repeated = m.repeated || repeated }

-- a collection that begins, with its first row
abbrev pub new_open : ℕ → Bool → ℕ → List ℕ → Option GivenName → Open
new_open depth mapping line key name = record { depth = depth; mapping = mapping; first_line = line; items = []; entries = []; line = line; key = key; name = name; measure = no_row }

abbrev pub top_depth : List Open → Option ℕ
top_depth [] = None
top_depth (o ∷ _) = Some o.depth

-- the row whose value is this node is finished
abbrev pub finished : Open → KnownNode → Open
finished o k = record o { items = if o.mapping then o.items else o.items ++ k.node ∷ []; entries = if o.mapping then with_entry o.entries o.key (record { line = o.line; node = k.node }) else o.entries; key = []; measure = with_part o.measure k.measure }

abbrev pub collection : Open → Value
collection o = if o.mapping then Mapping o.entries else Sequence o.items

abbrev pub has_row : Open → List ℕ → Bool
has_row o key = o.mapping && has_key key o.entries

-- the next row of the collection
abbrev pub with_next_row : ℕ → List ℕ → Open → Open
with_next_row line key o = record o { line = line; key = key; measure = with_repeat (has_row o key) o.measure }

-- the measure of all that is open, about a value
abbrev pub measure_about : List Open → Measure → Measure
measure_about [] m = m
measure_about (o ∷ os) m = measure_about os (with_part o.measure m)

-- the innermost is taken if it passes the test, and nothing else is
abbrev pub PopsWhere : (Open → Bool) → List Open → Option Open → List Open → Type 0
PopsWhere test old (Some o) new = (old ≡ o ∷ new) × (test o ≡ true)
PopsWhere test [] None new = new ≡ []
PopsWhere test (o ∷ os) None new = (new ≡ o ∷ os) × (test o ≡ false)
