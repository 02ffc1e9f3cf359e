-- What walks cost, and which cost is better.
use Rattle.std.specs.Prelude.{◌≡◌, ◌+◌, ◌*◌, ◌/◌, ◌<◌, ◌≤◌, ◌⊎◌}
use Rattle.sim_base.specs.Units.{hour}
use Rattle.gml_graph.specs.Edges.{lossless}
use Rattle.net_routes.specs.declared.cost.Cost.{Cost}

-- the cost of no hop: all that is sent arrives, at once
abbrev pub nothing : Cost
nothing = record { latency = 0; reliability = lossless }

-- Latencies add. Of what arrives before a hop its part arrives behind it, in whole units of 10^-9.
abbrev pub and_then : Cost → Cost → Cost
and_then c hop = record { latency = c.latency + hop.latency; reliability = c.reliability * hop.reliability / lossless }

-- less latency, or the same and no less arrives
abbrev pub IsAsGood : Cost → Cost → Type 0
IsAsGood c d = (c.latency < d.latency) ⊎ ((c.latency ≡ d.latency) × (d.reliability ≤ c.reliability))

-- A hop takes 1 ns to 1 h, and lets at most all through.
pub record IsHopCost (c : Cost) : Type 0 where
  pub some : 0 < c.latency
  pub within : c.latency ≤ hour
  pub part : c.reliability ≤ lossless
