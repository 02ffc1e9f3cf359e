-- The heads of captures, which are put before a run goes on.
use Rattle.std.specs.Prelude.{ℕ, List, [], Option, Some, None, flat_map}
use Rattle.pcap_text.specs.Writing.{head}
use Rattle.run_files.specs.Captured.{capture_files}
use Rattle.run_files.specs.Files.{Put}
use Rattle.run_files.specs.Listed.{HostNames}

-- of a host with a capture size: the head of each of its two captures
abbrev pub heads_by : List ℕ → Option ℕ → List Put
heads_by host None = []
heads_by host (Some size) = capture_files host (head size) (head size)

abbrev pub host_heads : HostNames → List Put
host_heads host = heads_by host.name host.capture

abbrev pub all_heads : List HostNames → List Put
all_heads hosts = flat_map host_heads hosts
