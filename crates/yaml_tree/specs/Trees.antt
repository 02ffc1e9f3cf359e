-- What is seen of a tree: its nodes by number, and the root's.
use Rattle.std.specs.Prelude.{◌≡◌, ℕ, Bool, List, length}
use Rattle.yaml_tree.specs.Said.{Said}
use Rattle.yaml_tree.specs.Holds.{HoldsSaid}
use Rattle.yaml_tree.specs.inside.Builder.{whole, known_of}
use Rattle.yaml_tree.specs.declared.node.Node.{Node}
use Rattle.yaml_tree.specs.Tree.{IsFaultOf}
use Rattle.yaml_tree.specs.declared.tree.Tree.{Tree}
use Rattle.yaml_tree.specs.declared.fault.TreeError.{TreeError}
use Rattle.yaml_tree.specs.declared.fault.TreeError.TheVariants as tree
use Rattle.yaml_tree.specs.declared.builder.Builder.{Builder}

abbrev pub nodes_of : Tree → List Node
nodes_of t = t.nodes

abbrev pub root_of : Tree → ℕ
root_of t = t.root

-- the tree is told to be that of an empty document
abbrev pub is_empty : Tree → Bool
is_empty t = t.empty

abbrev pub node_count : Tree → ℕ
node_count t = length t.nodes

-- the tree's nodes hold what is said
abbrev pub Holds : Tree → Said → Type 0
Holds t said = HoldsSaid t.nodes said t.root

-- the root's number once all that is open is closed
abbrev pub root_number : Builder → ℕ
root_number b = (known_of (whole b).value).node

-- all that is open is closed
abbrev pub IsWhole : Builder → Tree → Type 0
IsWhole b t = (t.nodes ≡ (whole b).nodes) × (t.root ≡ root_number b)

-- the fault of the text, want of memory aside
abbrev pub IsErrorOf : List ℕ → TreeError → Type 0
IsErrorOf text (tree.Fault fault) = IsFaultOf text fault.line fault.kind
IsErrorOf text tree.NoMemory = Unit {0}
