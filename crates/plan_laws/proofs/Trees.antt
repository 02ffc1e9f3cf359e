-- Each text has a tree, or a first fault.
use Rattle.std.proofs.Common.{◌≡◌, ℕ, List, Bool, true, false, Result, Ok, Err, refl, sym, ◌∙◌, true≢false}
use Rattle.std.specs.Str.{IsUtf8, is_utf8}
use Rattle.std.specs.declared.alloc.Global.{Global}
use Rattle.std.proofs.lemmas.Str.{IsUtf8-from_is_utf8, is_utf8-from_IsUtf8}
use Rattle.yaml_tokens.specs.Lines.{lines_of}
use Rattle.yaml_tree.specs.Said.{Said, tree_of}
use Rattle.yaml_tree.specs.Tree.{IsTree, IsFirstRefused, IsFaultOf, line_of_break}
use Rattle.yaml_tree.specs.declared.fault.FaultKind.{FaultKind}
use Rattle.yaml_tree.specs.declared.fault.FaultKind.TheVariants.{NotUtf8, Syntax, Unsupported, Duplicate, Alias, TooDeep, TooManyNodes}
use Rattle.yaml_tree.specs.declared.fault.YamlFault.{YamlFault}
use Rattle.yaml_tree.proofs.ReadingLaws.{ReadsTo, read_means}
use Rattle.run_plan.specs.Configured.{IsTreeOrFault}
use Rattle.run_plan.specs.declared.fault.Fault.{Fault}
use Rattle.run_plan.specs.declared.fault.Fault.TheVariants as fault

-- some handle of the heap, over which the law of reading is stated
heap : Global
heap = record { memory = record { seal = tt } }

fault_of_lines : (text : List ℕ) (line : ℕ) (kind : FaultKind) → IsUtf8 text → IsFirstRefused (lines_of text) line kind → IsFaultOf text line kind
fault_of_lines text line NotUtf8 u h = absurd h.refused
fault_of_lines text line Syntax u h = (u, h)
fault_of_lines text line Unsupported u h = (u, h)
fault_of_lines text line Duplicate u h = (u, h)
fault_of_lines text line Alias u h = (u, h)
fault_of_lines text line TooDeep u h = (u, h)
fault_of_lines text line TooManyNodes u h = (u, h)

-- whatever stands for the lines while they are read
read_tree : {B : Type 0} (Stands : Result B YamlFault → Type 0) (name text : List ℕ) → IsUtf8 text
    → ((b : B) → Stands (Ok b) → (tree : Said) × IsTree (lines_of text) tree) → ((f : YamlFault) → Stands (Err f) → IsFirstRefused (lines_of text) f.line f.kind)
    → (read : Result B YamlFault) → Stands read → (r : Result Said Fault) × IsTreeOrFault name text r
read_tree Stands name text u done refused (Ok b) h = let there = done b h in (Ok there.0, (u, there.1))
read_tree Stands name text u done refused (Err f) h = (Err (fault.Tree name f), (refl, fault_of_lines text f.line f.kind u (refused f h)))

tree_by : (name text : List ℕ) (b : Bool) → is_utf8 text ≡ b → (r : Result Said Fault) × IsTreeOrFault name text r
tree_by name text true e = read_tree (ReadsTo (lines_of text)) name text (IsUtf8-from_is_utf8 text e) (λ b h. (tree_of h.0, h.2)) (λ f h. h) _ (read_means (lines_of text) heap)
tree_by name text false e = (
  Err (fault.Tree name (record { line = line_of_break text; kind = NotUtf8 })),
  (refl, (λ u. true≢false (sym (is_utf8-from_IsUtf8 text u) ∙ e), refl)),
)

-- a text has a tree, or its first fault
pub some_tree : (name text : List ℕ) → (r : Result Said Fault) × IsTreeOrFault name text r
some_tree name text = tree_by name text (is_utf8 text) refl
