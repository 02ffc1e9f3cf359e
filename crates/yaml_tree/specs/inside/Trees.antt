-- What stands while a tree is read.
use Rattle.std.specs.Prelude.{◌≡◌, ◌<◌, ℕ, Result, Ok, Err, length}
use Rattle.yaml_tree.specs.inside.Builder.{whole}
use Rattle.yaml_tree.specs.declared.tree.Tree.{Tree}
use Rattle.yaml_tree.specs.declared.fault.YamlFault.{YamlFault}
use Rattle.yaml_tree.specs.declared.fault.TreeError.{TreeError}
use Rattle.yaml_tree.specs.declared.fault.TreeError.TheVariants as tree
use Rattle.yaml_tree.specs.declared.fault.Stop.{Stop}
use Rattle.yaml_tree.specs.declared.fault.Stop.TheVariants as stop
use Rattle.yaml_tree.specs.declared.builder.Builder.{Builder}
use Rattle.yaml_tree.specs.Trees.{root_number, IsWhole}

abbrev pub RootIsIn : Builder → Type 0
RootIsIn b = root_number b < length (whole b).nodes

-- what reading the lines gave, want of memory aside
abbrev pub IsReading : Result Builder YamlFault → Result Tree TreeError → Type 0
IsReading read (Ok t) = (b : Builder) × (read ≡ Ok b) × IsWhole b t
IsReading read (Err (tree.Fault fault)) = read ≡ Err fault
IsReading read (Err tree.NoMemory) = Unit {0}

abbrev pub error_at : ℕ → Stop → TreeError
error_at number (stop.Fault kind) = tree.Fault (record { line = number; kind = kind })
error_at number stop.NoMemory = tree.NoMemory
