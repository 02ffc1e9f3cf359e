-- What the texts of a self-load mean.
use Rattle.std.specs.Prelude.{◌≡◌, ℕ, List, [], ◌∷◌, map, codes, Ok}
use Rattle.yaml_tokens.specs.Lines.{lines_of}
use Rattle.yaml_tree.specs.Said.{Said}
use Rattle.yaml_tree.specs.Tree.{IsTreeOf, is_empty_document}
use Rattle.gml_graph.specs.Gml.{graph}
use Rattle.shd_config.specs.Config.{config}
use Rattle.shd_config.specs.declared.config.Config.{Config}
use Rattle.shd_config.specs.declared.overrides.Overrides.{Overrides}
use Rattle.shown_config.specs.Same.{without_line}
use Rattle.run_plan.specs.Ring.{ring}
use Rattle.run_plan.specs.SelfLoad.{self_load_config, self_load_graph}
use Rattle.self_load.specs.declared.files.File.{File}
use Rattle.self_load.specs.declared.generated.SelfLoad.{SelfLoad}

-- a configuration wherever the keys of its hosts stand
abbrev pub without_lines : Config → Config
without_lines c = record c { hosts = map without_line c.hosts }

-- the text has a tree which, with these options, is read as this configuration, wherever the keys of its hosts stand
pub record SaysConfig (text : List ℕ) (o : Overrides) (c : Config) : Type 0 where
  pub tree : Said
  pub is : IsTreeOf text tree
  pub said : Config
  pub read : config o (is_empty_document (lines_of text)) tree ≡ Ok said
  pub same : without_lines said ≡ without_lines c

-- the graph's file and the guest's
abbrev pub two_files : List ℕ → List File
two_files gml = record { name = codes "graph.gml"; bytes = gml } ∷ record { name = codes "ring"; bytes = ring } ∷ []

-- the files are a text that is read as the graph of a self-load of n hosts, and its guest
pub record AreFilesOf (n : ℕ) (files : List File) : Type 0 where
  pub gml : List ℕ
  pub read : graph gml ≡ Ok (self_load_graph n)
  pub two : files ≡ two_files gml

-- whatever the options are, the text is read as the configuration of a self-load of n hosts; and the files are its own
pub record Means (n : ℕ) (load : SelfLoad) : Type 0 where
  pub configured : (o : Overrides) → SaysConfig load.config o (self_load_config o n)
  pub files : AreFilesOf n load.files
