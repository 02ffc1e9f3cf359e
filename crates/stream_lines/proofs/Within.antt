-- Each configuration that is read keeps to the limits of configurations.
use Rattle.std.proofs.Common.{◌≡◌, Bool, Result, Ok, Err, IfOk, refl}
use Rattle.yaml_tree.specs.Said.{Said}
use Rattle.yaml_merge.specs.Merge.{merged}
use Rattle.shd_config.specs.Config.{config, merged_config, wrong_merge}
use Rattle.shd_config.specs.Limits.{MayOverride, IsWithinLimits}
use Rattle.shd_config.specs.declared.config.Config.{Config}
use Rattle.shd_config.specs.declared.fault.ConfigFault.{ConfigFault}
use Rattle.shd_config.specs.declared.overrides.Overrides.{Overrides}
use Rattle.shd_config.proofs.LimitLaws.{answers_within}
use Rattle.sim_base.specs.Refusals.{◌>>=◌}

module _ (o : Overrides) (may : MayOverride o) (empty : Bool) where
  read_within : (tree : Said) (read : Result Config ConfigFault) → merged_config o empty tree ≡ read → IfOk read IsWithinLimits
  read_within tree (Ok c) e = answers_within o may empty tree (Ok c) e
  read_within tree (Err fault) e = tt

  merged_within : (tree : Result Said ConfigFault) → IfOk (tree >>= merged_config o empty) IsWithinLimits
  merged_within (Ok tree) = read_within tree (merged_config o empty tree) refl
  merged_within (Err fault) = tt

  pub config_within : (tree : Said) → IfOk (config o empty tree) IsWithinLimits
  unfolding config
  config_within tree = merged_within (wrong_merge (merged tree))
