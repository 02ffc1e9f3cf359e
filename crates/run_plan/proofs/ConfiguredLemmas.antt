-- The configuration of a text.
use Rattle.std.proofs.Common.{◌≡◌, List, ℕ, Bool, refl, subst, inl, inr}
use Rattle.std.specs.Prelude.{Result, Ok, Err}
use Rattle.yaml_tokens.specs.Lines.{lines_of}
use Rattle.yaml_tree.specs.Said.{Said}
use Rattle.yaml_tree.specs.Tree.{IsTreeOf, is_empty_document}
use Rattle.shd_config.specs.Config.{config}
use Rattle.shd_config.specs.declared.config.Config.{Config}
use Rattle.shd_config.specs.declared.fault.ConfigFault.{ConfigFault}
use Rattle.shd_config.specs.declared.overrides.Overrides.{Overrides}
use Rattle.run_plan.specs.Configured.{tree_of, or_config_fault, configured}
use Rattle.run_plan.specs.Reading.{gives, Stops, Meets, CountsSource}
use Rattle.run_plan.specs.declared.fault.ReadStop.{ReadStop}
use Rattle.run_plan.specs.declared.fault.ReadStop.TheVariants.{Refused, ReadFailed, NoMemory}
use Rattle.run_plan.proofs.StepLemmas.{goes_on}

-- the nodes are those of the tree of the text
pub config_told : (file text : List ℕ) (o : Overrides) (empty : Bool) (tree : Said) (result : Result Config ReadStop) → IsTreeOf text tree → empty ≡ is_empty_document (lines_of text)
    → Meets (λ (c : Config). c) (gives (or_config_fault file (config o empty tree))) result → Meets (λ (c : Config). c) (configured file text o) result
unfolding configured
config_told file text o empty tree result t same h =
    goes_on (λ (c : Config). c) (tree_of file text) (λ (other : Said). gives (or_config_fault file (config o (is_empty_document (lines_of text)) other))) tree result t
    (subst (λ (b : Bool). Meets (λ (c : Config). c) (gives (or_config_fault file (config o b tree))) result) same h)

config_is : (file : List ℕ) (read : Result Config ConfigFault) (c : Config) → or_config_fault file read ≡ Ok c → read ≡ Ok c
config_is file (Ok d) c e = cc
config_is file (Err f) c e = cc

-- it is that of the tree of the text
pub configured_is : (file text : List ℕ) (o : Overrides) (c : Config) → (configured file text o).answers (Ok c) → (tree : Said) × IsTreeOf text tree × (config o (is_empty_document (lines_of text)) tree ≡ Ok c)
unfolding configured
configured_is file text o c (tree, t, e) = (tree, t, config_is file (config o (is_empty_document (lines_of text)) tree) c e)

-- no file is read
never_fails : (file text : List ℕ) (o : Overrides) (failed : List ℕ) → (configured file text o).reaches failed → ⊥
unfolding configured
never_fails file text o failed (inl h) = h
never_fails file text o failed (inr (tree, t, h)) = h

pub config_counted : (A : Type 0) (file text : List ℕ) (o : Overrides) (stop : ReadStop) (faults : ℕ) → Stops (configured file text o) stop → CountsSource {A = A} (Err stop) faults faults
config_counted A file text o (Refused fault) faults h = refl
config_counted A file text o (ReadFailed failed) faults h = absurd (never_fails file text o failed h)
config_counted A file text o NoMemory faults h = refl
