-- Walks of a graph, what they cost, and routes.
use Rattle.std.specs.Prelude.{◌≡◌, ℕ, ◌<◌, ◌≤◌, Bool, false, ◌⊎◌, if◌then◌else◌, List, [], ◌∷◌, length, fold, Contains, flat_map, ◌*◌}
use Rattle.gml_graph.specs.Limits.{most_edges}
use Rattle.gml_graph.specs.declared.graph.Edge.{Edge}
use Rattle.gml_graph.specs.declared.graph.Graph.{Graph}
use Rattle.net_routes.specs.declared.cost.Cost.{Cost}
use Rattle.net_routes.specs.declared.hop.Hop.{Hop}
use Rattle.net_routes.specs.Cost.{nothing, and_then, IsAsGood, IsHopCost}

-- the ways along an edge
abbrev pub along : Edge → Hop
along e = record { from = e.source; to = e.target; cost = record { latency = e.latency.nanos; reliability = e.reliability } }

abbrev pub against : Edge → Hop
against e = record { from = e.target; to = e.source; cost = record { latency = e.latency.nanos; reliability = e.reliability } }

-- Edges go both ways where the graph isn't directed.
abbrev pub ways : Bool → Edge → List Hop
ways directed e = if directed then (along e ∷ []) else (along e ∷ against e ∷ [])

abbrev pub hops : Graph → List Hop
hops g = flat_map (ways g.directed) g.edges

-- what holds of the hops of every graph
pub record AreHops (ss : List Hop) : Type 0 where
  pub few : length ss ≤ 2 * most_edges
  pub each : (s : Hop) → Contains ss s → IsHopCost s.cost

-- The walk leads from a to b by these hops.
abbrev pub Leads : List Hop → ℕ → ℕ → List Hop → Type 0
Leads ss a b [] = a ≡ b
Leads ss a b (s ∷ rest) = Contains ss s × (s.from ≡ a) × Leads ss s.to b rest

abbrev pub then_hop : Cost → Hop → Cost
then_hop c s = and_then c s.cost

-- the cost of a walk, from its source on
abbrev pub cost_of : List Hop → Cost
cost_of walk = fold then_hop nothing walk

-- A walk isn't empty. Where shortest paths aren't wanted, and from a node to itself, it has one hop.
pub record MayGo (shortest : Bool) (a b count : ℕ) : Type 0 where
  pub some : 0 < count
  pub one : (shortest ≡ false) ⊎ (a ≡ b) → count ≡ 1

-- some walk goes from a to b at this cost
pub record Goes (ss : List Hop) (shortest : Bool) (a b : ℕ) (c : Cost) : Type 0 where
  pub walk : List Hop
  pub leads : Leads ss a b walk
  pub may : MayGo shortest a b (length walk)
  pub costs : cost_of walk ≡ c

-- some walk goes at this cost, and none at a better one
pub record IsRoute (g : Graph) (shortest : Bool) (a b : ℕ) (c : Cost) : Type 0 where
  pub goes : Goes (hops g) shortest a b c
  pub best : (d : Cost) → Goes (hops g) shortest a b d → IsAsGood c d
