-- When the text that shows a configuration gives it again.
use Rattle.std.specs.Prelude.{◌≡◌, ◌<◌, ◌≤◌, ◌^◌, false, [], map, None, IfSome, Ok}
use Rattle.std.specs.Str.{IsUtf8}
use Rattle.yaml_tokens.specs.Lines.{lines_of}
use Rattle.yaml_tree.specs.Said.{Said, size}
use Rattle.yaml_tree.specs.Tree.{Says, IsTreeOf, is_empty_document}
use Rattle.shd_config.specs.Config.{config}
use Rattle.config_lines.specs.Shown.{shown}
use Rattle.shd_config.specs.Limits.{MayStop, IsSomeText}
use Rattle.shd_config.specs.declared.config.Config.{Config}
use Rattle.shd_config.specs.declared.config.HostConfig.{HostConfig}
use Rattle.shd_config.specs.declared.overrides.Overrides.{Overrides}

-- what a command line may give: numbers of 32 bits, a directory that has a name, in UTF-8, and a stop time in its range
pub record AreOverrides (o : Overrides) : Type 0 where
  pub seed : IfSome o.seed (λ n. n < 2 ^ 32)
  pub parallelism : IfSome o.parallelism (λ n. n < 2 ^ 32)
  pub directory : IfSome o.data_directory (λ name. IsUtf8 name × IsSomeText name)
  pub stop : IfSome o.stop_time MayStop

-- the command line gives nothing
abbrev pub no_overrides : Overrides
no_overrides = record { seed = None; parallelism = None; data_directory = None; stop_time = None }

-- a host wherever its key stands
abbrev pub without_line : HostConfig → HostConfig
without_line h = record h { line = 0 }

-- a configuration without what the text isn't of: the lines of the hosts, and the notes
abbrev pub without_places : Config → Config
without_places c = record c { hosts = map without_line c.hosts; notes = [] }

-- The text that shows a configuration says one tree, which is the text's tree where it isn't too large; and its configuration,
-- with nothing overridden, is the same again.
pub record ReadsBack (c : Config) : Type 0 where
  pub tree : Said
  pub says : Says (lines_of (shown c)) tree
  pub is : size tree ≤ 1_000_000 → IsTreeOf (shown c) tree
  pub some : is_empty_document (lines_of (shown c)) ≡ false
  pub again : Config
  pub read : config no_overrides false tree ≡ Ok again
  pub same : without_places again ≡ without_places c
