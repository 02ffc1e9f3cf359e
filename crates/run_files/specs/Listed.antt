-- What a listing tells of each host: its name and address, its capture size, and of its processes the programs and the expected final states.
use Rattle.std.specs.Prelude.{ℕ, ◌+◌, ◌≤◌, ◌^◌, List, [], ◌∷◌, ◌++◌, length, map, Option}
use Rattle.sim_base.specs.declared.address.Ip.{Ip}
use Rattle.run_files.specs.Files.{Put, program_of, expected_state}
use Rattle.file_calls.specs.Guest.{first_id}
use Rattle.host_rows.specs.declared.row.ProcessRow.{ProcessRow}
use Rattle.host_rows.specs.declared.row.Row.{Row}
use Rattle.run_files.specs.declared.listed.HostListing.{HostListing}
use Rattle.run_files.specs.declared.listed.Listing.{Listing}
use Rattle.run_files.specs.declared.listed.ProcessListing.{ProcessListing}

pub record HostNames : Type 0 where
  pub name : List ℕ
  pub address : Ip
  pub capture : Option ℕ
  pub processes : List ProcessListing

abbrev pub listed_process : ProcessRow → ProcessListing
listed_process row = record { program = program_of row.path; expected = expected_state row.expected }

-- what a host's row says
abbrev pub listed : Row → HostNames
listed row = record { name = row.name; address = row.address; capture = row.capture; processes = map listed_process row.processes }

-- what a listing says
abbrev pub said : HostListing → HostNames
said l = record { name = l.name; address = l.address; capture = l.capture; processes = l.processes.items }

abbrev pub names_of : Listing → List HostNames
names_of l = map said l.hosts.items

-- each of the host's processes has an id
abbrev pub HasIds : HostNames → Type 0
HasIds host = first_id + length host.processes ≤ 2 ^ 32

-- ---- host by host, and process by process

-- what f puts for each of the processes from p on, in order
abbrev pub by_process : (ℕ → ProcessListing → List Put) → ℕ → List ProcessListing → List Put
by_process f p [] = []
by_process f p (process ∷ processes) = f p process ++ by_process f (p + 1) processes

-- what f puts for each host and what is told of the host of its place
abbrev pub by_host : {X : Type 0} → (HostNames → X → List Put) → List HostNames → List X → List Put
by_host f [] xs = []
by_host f (host ∷ hosts) [] = []
by_host f (host ∷ hosts) (x ∷ xs) = f host x ++ by_host f hosts xs
