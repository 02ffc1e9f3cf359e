-- The rows of hosts: in byte order of their names, each with its rates, its address and the images of its processes.
use Rattle.std.specs.Prelude.{ℕ, List, [], ◌∷◌, map, Ok}
use Rattle.std.specs.List.Sorted.{IsPermutation, IsSortedByKey, IsStableByKey}
use Rattle.std.specs.Cmp.Lexicographic.{slice_cmp}
use Rattle.std.specs.Ordering.{nat_cmp}
use Rattle.sim_base.specs.declared.address.Ip.{Ip}
use Rattle.gml_graph.specs.declared.graph.Graph.{Graph}
use Rattle.shd_config.specs.declared.config.HostConfig.{HostConfig}
use Rattle.run_plan.specs.Addresses.{AreAddresses}
use Rattle.run_plan.specs.Reading.{Reading, gives, some_that, ◌>>=◌}
use Rattle.run_plan.specs.Programs.{place_of, programs_of}
use Rattle.run_plan.specs.Rates.{all_rates}
use Rattle.run_plan.specs.declared.host_row.HostRow.{HostRow}
use Rattle.run_plan.specs.declared.rates.Rates.{Rates}

-- the hosts in the byte order of their names; hosts of one name, which no configuration has, in document order
pub record AreInOrder (hosts ordered : List HostConfig) : Type 0 where
  pub same : IsPermutation hosts ordered
  pub order : IsSortedByKey (λ (h : HostConfig). h.name) (slice_cmp nat_cmp) ordered
  pub stable : IsStableByKey (λ (h : HostConfig). h.name) (slice_cmp nat_cmp) hosts ordered

-- the addresses of hosts, of which some are given
abbrev pub HaveAddresses : List HostConfig → List Ip → Type 0
HaveAddresses hosts addresses = AreAddresses (map (λ h. h.ip_addr) hosts) addresses

-- the places of the images of a host's processes among those of the programs
abbrev pub images_of : List (List ℕ) → HostConfig → List ℕ
images_of programs host = map (λ p. place_of programs p.path) host.processes

abbrev pub row_of : List (List ℕ) → HostConfig → Rates → Ip → HostRow
row_of programs host rates address = record { config = host; rates = rates; address = address; images = images_of programs host }

-- the row of each host with its rates and its address
abbrev pub rows_of : List (List ℕ) → List HostConfig → List Rates → List Ip → List HostRow
rows_of programs (host ∷ hosts) (rates ∷ more) (address ∷ addresses) = row_of programs host rates address ∷ rows_of programs hosts more addresses
rows_of programs _ _ _ = []

-- the rows of the hosts of a configuration that has this name, or the first fault
unfoldable pub host_rows : List ℕ → Graph → List HostConfig → Reading (List HostRow)
host_rows name graph hosts = do
  ordered ← some_that (AreInOrder hosts)
  rates ← gives (all_rates name graph.nodes ordered)
  addresses ← some_that (HaveAddresses ordered)
  gives (Ok (rows_of (programs_of hosts) ordered rates addresses))
