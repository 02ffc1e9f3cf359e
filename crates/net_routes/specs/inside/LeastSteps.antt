-- What stands while the least latency is sought.
use Rattle.std.specs.Prelude.{◌≡◌, ◌≢◌, ℕ, ◌<◌, ◌≤◌, List, Option, Some, None, option_map, slice_index, min}
use Rattle.net_routes.specs.RouteMap.{RouteMap}
use Rattle.net_routes.specs.Needed.{IsNeeded}
use Rattle.net_routes.specs.Routes.{route_in}

-- the latency that is kept for the nodes of two hosts
abbrev pub latency_of : List ℕ → RouteMap → ℕ → ℕ → Option ℕ
latency_of nodes r p q = option_map (λ c. c.latency) (route_in r (slice_index nodes p) (slice_index nodes q))

-- the latency of one of these pairs of hosts, and no other has less
pub record IsLeastOf (Among : ℕ → ℕ → Type 0) (nodes : List ℕ) (r : RouteMap) (least : ℕ) : Type 0 where
  pub from : ℕ
  pub to : ℕ
  pub among : Among from to
  pub is : latency_of nodes r from to ≡ Some least
  pub each : (p q t : ℕ) → Among p q → latency_of nodes r p q ≡ Some t → least ≤ t

-- it, or nothing where there is no pair
abbrev pub IsLeastIf : (Among : ℕ → ℕ → Type 0) → List ℕ → RouteMap → Option ℕ → Type 0
IsLeastIf Among nodes r None = (p q : ℕ) → Among p q → ⊥
IsLeastIf Among nodes r (Some least) = IsLeastOf Among nodes r least

-- one pair alone
pub record IsPair (host other p q : ℕ) : Type 0 where
  pub from : p ≡ host
  pub to : q ≡ other
  pub others : p ≢ q

-- the latency between two hosts, or nothing where they are one
abbrev pub IsLatency : List ℕ → RouteMap → ℕ → ℕ → Option ℕ → Type 0
IsLatency nodes r host other None = host ≡ other
IsLatency nodes r host other (Some t) = (host ≢ other) × (latency_of nodes r host other ≡ Some t)

-- a host and one of the first others
pub record IsFromTo (host count p q : ℕ) : Type 0 where
  pub from : p ≡ host
  pub to : q < count
  pub others : p ≢ q

-- one of the first hosts and another one
pub record IsFromFirst (count hosts p q : ℕ) : Type 0 where
  pub from : p < count
  pub to : q < hosts
  pub others : p ≢ q

-- the latency from one node to another one, or nothing where no hosts need it
abbrev pub IsNeededLatency : List ℕ → RouteMap → ℕ → ℕ → Option ℕ → Type 0
IsNeededLatency nodes r a b None = IsNeeded nodes a b → ⊥
IsNeededLatency nodes r a b (Some t) = IsNeeded nodes a b × (option_map (λ c. c.latency) (route_in r a b) ≡ Some t)

-- places of two nodes between which hosts need a route
abbrev pub IsNeededAt : List ℕ → List ℕ → ℕ → ℕ → Type 0
IsNeededAt nodes stops p q = IsNeeded nodes (slice_index stops p) (slice_index stops q)

-- such places, one alone
pub record IsNeededPair (nodes stops : List ℕ) (i j p q : ℕ) : Type 0 where
  pub from : p ≡ i
  pub to : q ≡ j
  pub needed : IsNeededAt nodes stops p q

-- from one place to one of the first
pub record IsNeededTo (nodes stops : List ℕ) (i count p q : ℕ) : Type 0 where
  pub from : p ≡ i
  pub to : q < count
  pub needed : IsNeededAt nodes stops p q

-- from one of the first
pub record IsNeededFirst (nodes stops : List ℕ) (count all p q : ℕ) : Type 0 where
  pub from : p < count
  pub to : q < all
  pub needed : IsNeededAt nodes stops p q

-- the less of two numbers, each of which may be missing
abbrev pub lesser : Option ℕ → Option ℕ → Option ℕ
lesser None b = b
lesser (Some x) None = Some x
lesser (Some x) (Some y) = Some (min x y)
