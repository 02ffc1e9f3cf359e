-- The places of nodes, and the arcs that stand for hops.
use Rattle.std.specs.Prelude.{◌≡◌, ℕ, ◌++◌, List, [], ◌∷◌, length, Contains, Option, None, option_and_then, slice_set, flat_map}
use Rattle.std.specs.List.{slice_index_or}
use Rattle.net_routes.specs.declared.cost.Cost.{Cost}
use Rattle.net_routes.specs.declared.hop.Hop.{Hop}
use Rattle.net_routes.specs.declared.arc.Arc.{Arc}
use Rattle.net_routes.specs.Needed.{IsAt}
use Rattle.net_routes.specs.inside.Places.{place_of}
use Rattle.net_routes.specs.inside.Path.{Leaves}

-- the nodes that hops join, those of each hop in turn
abbrev pub ends_of : List Hop → List ℕ
ends_of hops = flat_map (λ s. s.from ∷ s.to ∷ []) hops

-- The arc leaves the place of the node that the hop leaves, and so on.
pub record IsArcOf (ids : List ℕ) (place : ℕ) (x : Arc) (s : Hop) : Type 0 where
  pub from : IsAt ids place s.from
  pub to : IsAt ids x.to s.to
  pub cost : x.cost ≡ s.cost

-- each arc for a hop, and each hop by an arc
pub record IsAdjacency (ss : List Hop) (ids : List ℕ) (rows : List (List Arc)) : Type 0 where
  pub size : length rows ≡ length ids
  pub arcs : (place : ℕ) (x : Arc) → Leaves rows place x → (s : Hop) × Contains ss s × IsArcOf ids place x s
  pub hops : (s : Hop) → Contains ss s → (place : ℕ) × (x : Arc) × Leaves rows place x × IsArcOf ids place x s

-- one arc more, for a hop
pub record AddsArc (ids : List ℕ) (s : Hop) (old new : List (List Arc)) : Type 0 where
  pub place : ℕ
  pub arc : Arc
  pub arc_of : IsArcOf ids place arc s
  pub added : new ≡ slice_set old place (slice_index_or old place [] ++ arc ∷ [])

-- what was found for the place of a node
abbrev pub cost_to : List ℕ → List (Option Cost) → ℕ → Option Cost
cost_to ids costs node = option_and_then (λ place. slice_index_or costs place None) (place_of ids node)
