-- Who took which host in a round.
use Rattle.std.specs.Prelude.{ℕ, ◌-◌, List, [], ◌∷◌, map, replicate, Vec}
use Rattle.std.specs.declared.alloc.Global.{Global}
use Rattle.sim_base.specs.declared.host.HostId.{HostId}
use Rattle.list_weights.specs.Weights.{numbers_below}
use Rattle.round_lookahead.specs.declared.world.took.Took.{Took}
use Rattle.round_lookahead.specs.declared.world.took.Took.TheVariants.{First, Each}

-- the host of a number
abbrev pub host_of : ℕ → HostId
host_of number = record { index = number }

-- so many hosts, in the order of their numbers
abbrev pub hosts_below : ℕ → List HostId
hosts_below count = map host_of (numbers_below count)

-- the hosts that each worker took, in order
abbrev pub took_in : Took → List (List HostId)
took_in (First workers hosts) = hosts_below hosts ∷ replicate (workers - 1) []
took_in (Each lists) = map (λ (v : Vec HostId Global). v.items) lists.items
