-- the texts that a configuration gives to hosts and to their processes
use Rattle.std.specs.Prelude.{ℕ, List}
use Rattle.std.specs.List.{AllByRecursion}
use Rattle.std.specs.Str.{IsUtf8}
use Rattle.shd_config.specs.declared.config.Config.{Config}
use Rattle.shd_config.specs.declared.config.HostConfig.{HostConfig}
use Rattle.shd_config.specs.declared.config.ProcessConfig.{ProcessConfig}
use Rattle.shd_config.specs.declared.config.Variable.{Variable}

abbrev pub AreUtf8 : List (List ℕ) → Type 0
AreUtf8 texts = AllByRecursion IsUtf8 texts

-- a variable of an environment: its name and its value
abbrev pub VariableIsText : Variable → Type 0
VariableIsText v = IsUtf8 v.name × IsUtf8 v.value

-- a process: its path, its arguments and its environment
abbrev pub ProcessIsText : ProcessConfig → Type 0
ProcessIsText p = IsUtf8 p.path × AreUtf8 p.args × AllByRecursion VariableIsText p.environment

-- a host: its name, and its processes
abbrev pub HostIsText : HostConfig → Type 0
HostIsText h = IsUtf8 h.name × AllByRecursion ProcessIsText h.processes

abbrev pub HasTexts : Config → Type 0
HasTexts c = AllByRecursion HostIsText c.hosts
