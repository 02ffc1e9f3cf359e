-- The configuration of a text: its tree, and then what the tree says.
use Rattle.std.specs.Prelude.{◌≡◌, ℕ, List, Result, Ok, Err}
use Rattle.yaml_tokens.specs.Lines.{lines_of}
use Rattle.yaml_tree.specs.Said.{Said}
use Rattle.yaml_tree.specs.Tree.{IsTreeOf, IsFaultOf, is_empty_document}
use Rattle.shd_config.specs.Config.{config}
use Rattle.shd_config.specs.declared.config.Config.{Config}
use Rattle.shd_config.specs.declared.fault.ConfigFault.{ConfigFault}
use Rattle.shd_config.specs.declared.overrides.Overrides.{Overrides}
use Rattle.run_plan.specs.Reading.{Reading, gives, no_file, ◌>>=◌}
use Rattle.run_plan.specs.declared.fault.Fault.{Fault}
use Rattle.run_plan.specs.declared.fault.Fault.TheVariants as fault

-- the fault is that of the text of this file
abbrev pub IsTreeFault : List ℕ → List ℕ → Fault → Type 0
IsTreeFault name text (fault.Tree file f) = (file ≡ name) × IsFaultOf text f.line f.kind
IsTreeFault name text _ = ⊥

abbrev pub IsTreeOrFault : List ℕ → List ℕ → Result Said Fault → Type 0
IsTreeOrFault name text (Ok tree) = IsTreeOf text tree
IsTreeOrFault name text (Err f) = IsTreeFault name text f

-- the tree of a text, or its first fault
abbrev pub tree_of : List ℕ → List ℕ → Reading Said
tree_of name text = record { answers = IsTreeOrFault name text; reaches = no_file }

abbrev pub or_config_fault : List ℕ → Result Config ConfigFault → Result Config Fault
or_config_fault name (Ok c) = Ok c
or_config_fault name (Err f) = Err (fault.Config name f)

-- the configuration of the text of this file
unfoldable pub configured : List ℕ → List ℕ → Overrides → Reading Config
configured name text overrides = do
  tree ← tree_of name text
  gives (or_config_fault name (config overrides (is_empty_document (lines_of text)) tree))
