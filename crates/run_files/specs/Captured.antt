-- The two captures of each host that has them: the bytes that lines of the packet log bring into them.
use Rattle.std.specs.Prelude.{ℕ, ◌+◌, List, ◌∷◌, ◌++◌, Option, Some, None, true, false, []}
use Rattle.sim_base.specs.declared.address.Ip.{Ip}
use Rattle.run_outside.specs.declared.sink.SinkTarget.TheVariants as target
use Rattle.out_text.specs.Files.{capture_name}
use Rattle.run_files.specs.Captures.{eth0_of, lo_of, records_of}
use Rattle.run_files.specs.Files.{Put}
use Rattle.run_files.specs.Listed.{HostNames, by_host}
use Rattle.run_files.specs.declared.capture.Captured.{Captured}
use Rattle.host_link.specs.declared.line.Line.{Line}

-- the records of a host with this number and address, where it has a capture size
abbrev pub captured_by : ℕ → Ip → List Line → Option ℕ → Captured
captured_by number own lines None = record { eth0 = []; lo = [] }
captured_by number own lines (Some size) = record { eth0 = records_of size (eth0_of number own lines); lo = records_of size (lo_of number own lines) }

abbrev pub captured : ℕ → HostNames → List Line → Captured
captured number host lines = captured_by number host.address lines host.capture

-- those of all hosts, the first of which has this number
abbrev pub captured_from : ℕ → List HostNames → List Line → List Captured
captured_from number [] lines = []
captured_from number (host ∷ hosts) lines = captured number host lines ∷ captured_from (number + 1) hosts lines

-- the two files of a host, with these bytes
abbrev pub capture_files : List ℕ → List ℕ → List ℕ → List Put
capture_files host eth0 lo = (target.File (capture_name host false), eth0) ∷ (target.File (capture_name host true), lo) ∷ []

-- of a host with a capture size: each with its records, and in front of them what comes there by the capture size
abbrev pub files_by : (ℕ → List ℕ) → List ℕ → Captured → Option ℕ → List Put
files_by front host c None = []
files_by front host c (Some size) = capture_files host (front size ++ c.eth0) (front size ++ c.lo)

abbrev pub host_captures : (ℕ → List ℕ) → HostNames → Captured → List Put
host_captures front host c = files_by front host.name c host.capture

abbrev pub all_captures : (ℕ → List ℕ) → List HostNames → List Line → List Put
all_captures front hosts lines = by_host (host_captures front) hosts (captured_from 0 hosts lines)

-- nothing in front
abbrev pub no_head : ℕ → List ℕ
no_head size = []
