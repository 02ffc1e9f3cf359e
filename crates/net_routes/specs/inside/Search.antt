-- What a search from a place on knows.
use Rattle.std.specs.Prelude.{◌≡◌, ℕ, ◌*◌, ◌<◌, ◌≤◌, ◌⊎◌, List, [], ◌∷◌, length, Contains, Option, Some, None, is_some, count_by}
use Rattle.std.specs.List.{slice_index_or}
use Rattle.std.specs.Ordering.{nat_cmp}
use Rattle.std.specs.declared.cmp.Ordering.{Ordering}
use Rattle.sim_base.specs.Units.{hour}
use Rattle.gml_graph.specs.Edges.{lossless}
use Rattle.net_routes.specs.declared.cost.Cost.{Cost}
use Rattle.net_routes.specs.declared.arc.Arc.{Arc}
use Rattle.net_routes.specs.declared.search.Entry.{Entry}
use Rattle.net_routes.specs.Cost.{nothing, IsAsGood}
use Rattle.net_routes.specs.inside.Path.{Leaves, then_arc, HasPath}

-- the place was left, at this cost
abbrev pub IsSettled : List (Option Cost) → ℕ → Cost → Type 0
IsSettled best place c = slice_index_or best place None ≡ Some c

-- a cost as good is known for the place
abbrev pub IsKnown : List (Option Cost) → ℕ → Cost → Type 0
IsKnown known place c = (d : Cost) × (slice_index_or known place None ≡ Some d) × IsAsGood d c

-- an entry of the place waits, at no greater latency
abbrev pub IsWaiting : List Entry → ℕ → ℕ → Type 0
IsWaiting waiting place latency = (e : Entry) × Contains waiting e × (e.place ≡ place) × (e.latency.0 ≤ latency)

-- the place was left as cheaply, or waits to be left as soon
abbrev pub IsReached : List (Option Cost) → List Entry → ℕ → Cost → Type 0
IsReached best waiting place c =
    ((d : Cost) × IsSettled best place d × IsAsGood d c) ⊎ ((slice_index_or best place None ≡ None) × IsWaiting waiting place c.latency)

-- `best` has the cost of each place that was left, `known` the best cost seen of each.
pub record IsSearch (rows : List (List Arc)) (start : ℕ) (best known : List (Option Cost)) (waiting : List Entry) : Type 0 where
  pub size : length best ≡ length rows
  pub room : length known ≡ length rows
  pub settled : (v : ℕ) (c : Cost) → IsSettled best v c → HasPath rows start v c
  pub had : (v : ℕ) (c : Cost) → slice_index_or known v None ≡ Some c → HasPath rows start v c
  pub waits : (e : Entry) → Contains waiting e → (e.place < length rows) × (c : Cost) × (slice_index_or known e.place None ≡ Some c) × (c.latency ≤ e.latency.0)
  pub ordered : (v : ℕ) (c : Cost) (e : Entry) → IsSettled best v c → Contains waiting e → c.latency ≤ e.latency.0
  pub seen : (v : ℕ) (c : Cost) → slice_index_or known v None ≡ Some c → IsReached best waiting v c
  pub closed : (u : ℕ) (c : Cost) (x : Arc) → IsSettled best u c → Leaves rows u x → IsKnown known x.to (then_arc c x)
  pub source : IsKnown known start nothing
  pub bounded : (v : ℕ) (c : Cost) → slice_index_or known v None ≡ Some c → (c.latency ≤ count_by is_some best * hour) × (c.reliability ≤ lossless)

-- the cost of a place is that by an arc, and the place waits
pub record IsMade (c : Cost) (arcs : List Arc) (waiting : List Entry) (v : ℕ) (d : Cost) : Type 0 where
  pub arc : Arc
  pub leaves : Contains arcs arc
  pub ends : arc.to ≡ v
  pub costs : then_arc c arc ≡ d
  pub waits : IsWaiting waiting v d.latency

-- what a settled place adds to what is known and to those that wait
pub record AddsArcs (c : Cost) (arcs : List Arc) (known seen : List (Option Cost)) (old new : List Entry) : Type 0 where
  pub size : length seen ≡ length known
  pub kept : (e : Entry) → Contains old e → Contains new e
  pub added : (x : Arc) → Contains arcs x → IsKnown seen x.to (then_arc c x)
  pub lower : (v : ℕ) (d : Cost) → slice_index_or known v None ≡ Some d → IsKnown seen v d
  pub from : (v : ℕ) (d : Cost) → slice_index_or seen v None ≡ Some d → (slice_index_or known v None ≡ Some d) ⊎ IsMade c arcs new v d
  pub only : (e : Entry) → Contains new e → Contains old e ⊎ ((x : Arc) × Contains arcs x × (e.place ≡ x.to) × (e.latency.0 ≡ (then_arc c x).latency))

-- the first to leave is as soon as each other
abbrev pub IsFirst : Entry → List Entry → Type 0
IsFirst e others = (o : Entry) → Contains others o → e.latency.0 ≤ o.latency.0

-- The greater entry is the sooner one.
abbrev pub entry_order : Entry → Entry → Ordering
entry_order a b = nat_cmp b.latency.0 a.latency.0

-- what the first entry to a place that wasn't left yet leaves behind; nothing waits where there is none
abbrev pub IsNext : List (List Arc) → ℕ → List (Option Cost) → List (Option Cost) → Option Entry → List Entry → Type 0
IsNext rows start best known None rest = IsSearch rows start best known rest × (rest ≡ [])
IsNext rows start best known (Some e) rest = IsSearch rows start best known (e ∷ rest) × IsFirst e rest × (slice_index_or best e.place None ≡ None)
