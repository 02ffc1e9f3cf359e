-- What is kept of collections that are open.
use Rattle.std.specs.Prelude.{ℕ, true, false, List, [], Some, None}
use Rattle.yaml_tree.specs.inside.Stack.{new_open}
use Rattle.yaml_tree.specs.declared.entries.Child.{Child}
use Rattle.yaml_tree.specs.declared.known.Measure.{Measure}
use Rattle.yaml_tree.specs.declared.stack.Open.{Open}
use Rattle.yaml_tree.specs.declared.frame.Frame.{Frame}
use Rattle.yaml_tree.specs.declared.frame.Frame.TheVariants.{Begun, Named, Cells, Rows, Other}

-- a sequence of a flow form that has these items
abbrev pub sequence_of : ℕ → Measure → List ℕ → Open
sequence_of line measure items = record (new_open 0 false line [] None) { items = items; measure = measure }

-- a mapping without a name that has these entries
abbrev pub mapping_of : ℕ → ℕ → List ℕ → Measure → List (List ℕ × Child) → Open
mapping_of depth line key measure entries = record (new_open depth true line key None) { entries = entries; measure = measure }

-- the collection that a frame is kept of
abbrev pub open_of : Frame → Open
open_of (Begun mapping depth line key) = new_open depth mapping line key None
open_of (Named kept) = new_open kept.value.depth kept.value.mapping kept.value.line kept.value.key (Some kept.value.name)
open_of (Cells line measure items) = sequence_of line measure items
open_of (Rows kept) = mapping_of kept.value.depth kept.value.line kept.value.key kept.value.measure kept.value.entries
open_of (Other kept) = kept.value
