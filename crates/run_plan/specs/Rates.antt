-- The rates of hosts, and the faults of hosts.
use Rattle.std.specs.Prelude.{ℕ, Bool, false, List, [], ◌∷◌, ◌++◌, Option, Some, None, find, ◌==◌, Result, Ok}
use Rattle.std.specs.Option.{option_map_or, option_to_list}
use Rattle.sim_base.specs.Addresses.{has_host}
use Rattle.sim_base.specs.Refusals.{◌>>=◌, or_refuse, refuse_if}
use Rattle.sim_base.specs.declared.address.Ip.{Ip}
use Rattle.gml_graph.specs.declared.graph.Node.{Node}
use Rattle.shd_config.specs.declared.config.HostConfig.{HostConfig}
use Rattle.run_plan.specs.declared.fault.Fault.{Fault}
use Rattle.run_plan.specs.declared.fault.Fault.TheVariants.{Host}
use Rattle.run_plan.specs.declared.fault.HostFault.{HostFault}
use Rattle.run_plan.specs.declared.fault.HostFault.TheVariants.{UnknownNode, NoBandwidth, DuplicateAddress}
use Rattle.run_plan.specs.declared.rates.Rates.{Rates}

abbrev pub node_of : List Node → ℕ → Option Node
node_of nodes number = find (λ (n : Node). n.id == number) nodes

-- the host's own rate, or its node's
abbrev pub rate_of : Option ℕ → Option ℕ → Option ℕ
rate_of (Some own) other = Some own
rate_of None other = other

-- what is wrong with a host, at the line of its key
abbrev pub at_host : List ℕ → HostConfig → HostFault → Fault
at_host file h kind = Host file h.line h.name kind

-- the host is given an address that is among these
abbrev pub is_given_again : List Ip → HostConfig → Bool
is_given_again earlier h = option_map_or (has_host earlier) h.ip_addr false

-- the rates of a host, where earlier hosts were given these addresses; or its first fault
unfoldable pub rates_of : List ℕ → List Node → List Ip → HostConfig → Result Rates Fault
rates_of file nodes earlier h = do
  node ← or_refuse (node_of nodes h.network_node_id) (at_host file h UnknownNode)
  up ← or_refuse (rate_of h.bandwidth_up node.bandwidth_up) (at_host file h NoBandwidth)
  down ← or_refuse (rate_of h.bandwidth_down node.bandwidth_down) (at_host file h NoBandwidth)
  _ ← refuse_if (is_given_again earlier h) (at_host file h DuplicateAddress)
  Ok (record { up = up; down = down })

-- the rates of hosts, one host after another
abbrev pub rates_behind : List ℕ → List Node → List Ip → List HostConfig → Result (List Rates) Fault
rates_behind file nodes earlier [] = Ok []
rates_behind file nodes earlier (h ∷ hs) = do
  first ← rates_of file nodes earlier h
  rest ← rates_behind file nodes (earlier ++ option_to_list h.ip_addr) hs
  Ok (first ∷ rest)

abbrev pub all_rates : List ℕ → List Node → List HostConfig → Result (List Rates) Fault
all_rates file nodes hosts = rates_behind file nodes [] hosts
