-- What stands in the files that grow while a run goes on.
use Rattle.std.specs.Prelude.{◌≡◌, List, map, Option, Some, All, true}
use Rattle.std.specs.List.{IsDistinct}
use Rattle.std.specs.Str.{bytes_eq}
use Rattle.run_outside.specs.Sink.{Content}
use Rattle.run_outside.specs.declared.sink.SinkTarget.{SinkTarget}
use Rattle.run_files.specs.Files.{Put}
use Rattle.pcap_text.specs.Writing.{head}
use Rattle.run_files.specs.Grown.{grown_behind}
use Rattle.host_state.specs.HostRecord.{HostRecord}
use Rattle.run_files.specs.Listed.{HostNames, HasIds}
use Rattle.host_state.specs.Gains.{names_in}
use Rattle.host_link.specs.Logs.{lines_of}
use Rattle.net_run.specs.Heads.{all_heads}
use Rattle.net_run.specs.Pieces.{with_pieces}
use Rattle.net_run.specs.Targets.{bytes_at, is_touched}
use Rattle.net_run.specs.World.{World}

-- ---- what stands when a run has come to a world

-- all that its processes wrote to descriptors 1 and 2, its captures and its packet log
abbrev pub grown_in : World → List Put
grown_in w = grown_behind head (names_in w) (map (λ (h : HostRecord). h.written) w.hosts) (lines_of w.log)

-- what was put is at these targets, and at each of them it is all of this; the captures are there
pub record IsGrown (w : World) (puts : List Put) : Type 0 where
  pub targets : (at : SinkTarget) → is_touched at puts ≡ true → is_touched at (grown_in w) ≡ true
  pub bytes : (at : SinkTarget) → bytes_at at puts ≡ bytes_at at (grown_in w)
  pub captures : (at : SinkTarget) → is_touched at (all_heads (names_in w)) ≡ true → is_touched at puts ≡ true

-- ---- hosts whose processes have files of their own

-- no two hosts have one name, and each process has an id
pub record HaveOwnFiles (hosts : List HostNames) : Type 0 where
  pub names : IsDistinct bytes_eq (map (λ (h : HostNames). h.name) hosts)
  pub ids : All HasIds hosts

-- a run of hosts with these names has come to a world, and what stands is what stood when it began, and what has grown
pub record IsUnderway (names : List HostNames) (begun : Content) (now : Option Content) (w : World) : Type 0 where
  pub names_are : names ≡ names_in w
  pub own : HaveOwnFiles names
  pub puts : List Put
  pub grown : IsGrown w puts
  pub now_is : now ≡ Some (with_pieces puts begun)
