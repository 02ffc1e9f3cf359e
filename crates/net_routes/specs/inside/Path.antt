-- Paths over places. A place is a number; each has the arcs that leave it.
use Rattle.std.specs.Prelude.{◌≡◌, ℕ, ◌<◌, Bool, List, [], ◌∷◌, length, fold, Contains, Option, Some}
use Rattle.std.specs.List.{slice_index_or}
use Rattle.net_routes.specs.declared.cost.Cost.{Cost}
use Rattle.net_routes.specs.declared.arc.Arc.{Arc}
use Rattle.net_routes.specs.Cost.{nothing, and_then, IsAsGood, IsHopCost}
use Rattle.net_routes.specs.Walk.{MayGo}

-- an arc leaves a place
abbrev pub Leaves : List (List Arc) → ℕ → Arc → Type 0
Leaves rows place x = Contains (slice_index_or rows place []) x

abbrev pub Leads : List (List Arc) → ℕ → ℕ → List Arc → Type 0
Leads rows a b [] = a ≡ b
Leads rows a b (x ∷ rest) = Leaves rows a x × Leads rows x.to b rest

abbrev pub then_arc : Cost → Arc → Cost
then_arc c x = and_then c x.cost

-- some path from a to b costs so much
pub record HasPath (rows : List (List Arc)) (a b : ℕ) (c : Cost) : Type 0 where
  pub path : List Arc
  pub leads : Leads rows a b path
  pub costs : fold then_arc nothing path ≡ c

-- some path by which a walk may go
pub record HasWay (rows : List (List Arc)) (shortest : Bool) (a b : ℕ) (c : Cost) : Type 0 where
  pub path : List Arc
  pub leads : Leads rows a b path
  pub may : MayGo shortest a b (length path)
  pub costs : fold then_arc nothing path ≡ c

-- some arc leads to b
pub record HasArc (arcs : List Arc) (b : ℕ) (c : Cost) : Type 0 where
  pub arc : Arc
  pub leaves : Contains arcs arc
  pub ends : arc.to ≡ b
  pub costs : then_arc nothing arc ≡ c

-- An arc ends at a place, and costs what a hop may cost.
pub record IsArc (places : ℕ) (x : Arc) : Type 0 where
  pub ends : x.to < places
  pub hop : IsHopCost x.cost

abbrev pub AreArcs : List (List Arc) → Type 0
AreArcs rows = (place : ℕ) (x : Arc) → Leaves rows place x → IsArc (length rows) x

-- What is found is had, and nothing better is.
pub record IsBest (Has : ℕ → Cost → Type 0) (found : ℕ → Option Cost) : Type 0 where
  pub goes : (b : ℕ) (c : Cost) → found b ≡ Some c → Has b c
  pub least : (b : ℕ) (c : Cost) → Has b c → (d : Cost) × (found b ≡ Some d) × IsAsGood d c

-- The same for one place.
pub record IsBestTo (arcs : List Arc) (place : ℕ) (found : Option Cost) : Type 0 where
  pub goes : (c : Cost) → found ≡ Some c → HasArc arcs place c
  pub least : (c : Cost) → HasArc arcs place c → (d : Cost) × (found ≡ Some d) × IsAsGood d c
