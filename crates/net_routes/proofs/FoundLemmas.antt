-- From what was found to routes.
use Rattle.std.proofs.Common.{◌≡◌, ℕ, suc, ◌+◌, ◌-◌, ◌<◌, ◌≤◌, Bool, List, [], ◌∷◌, ◌++◌, length, get_or, map, take, drop, Option, Some, Ok, Err, Result, append-nil, refl, sym, ap, ◌∙◌, subst, ⊎_elim, arith}
use Rattle.std.specs.Prelude.{All, Contains, IfOk, IfErr, ◌↔◌, slice_index, slice_index_or}
use Rattle.std.specs.List.Sorted.{IsStrictlyIncreasing}
use Rattle.std.proofs.lemmas.List.{get_or-map, get_or_append_left, get_or-append_right, get_or-take, get_or-drop, length-map, length-append, length-take, length-drop, map-append, take_more}
use Rattle.std.proofs.lemmas.Bool.{cases_lt}
use Rattle.std.proofs.Math.Seq.{get_or-append_seam}
use Rattle.gml_graph.specs.declared.graph.Graph.{Graph}
use Rattle.net_routes.specs.declared.cost.Cost.{Cost}
use Rattle.net_routes.specs.declared.error.RouteError.{RouteError}
use Rattle.net_routes.specs.declared.error.RouteError.TheVariants as errors
use Rattle.net_routes.specs.declared.finding.Search.{Search}
use Rattle.net_routes.specs.declared.adjacency.Adjacency.{Adjacency}
use Rattle.net_routes.specs.inside.Found.{IsRowOrLack, IsFound, IsTurnedAt, IsToSearch, AreSearched, IsStopped, rows_found, oks, most_at_once, AreFound, IsRefused}
use Rattle.net_routes.specs.inside.RouteRows.{IsRouteRow, NamesLack}
use Rattle.net_routes.specs.Needed.{IsAt, IsNeeded}
use Rattle.net_routes.specs.inside.Adjacency.{IsAdjacency}
use Rattle.net_routes.specs.Routes.{IsRefusal}
use Rattle.net_routes.specs.Table.{IsRouteIfAny, IsTable}
use Rattle.net_routes.specs.inside.RouteMaps.{route_at, map_of}
use Rattle.net_routes.specs.Walk.{IsRoute, hops}
use Rattle.net_routes.proofs.PlaceLemmas.{at_contains, place_found}
use Rattle.net_routes.proofs.RouteLemmas.{HasRoutesFrom, HasRoutesBelow, route_placed, routes_from, routes_whole, routes_sound, refused}
use Rattle.net_routes.proofs.RouteMapLemmas.{routes_kept, kept_between}

-- all searches were made
abbrev pub AllFound : Adjacency → List ℕ → List ℕ → Bool → List Search → Type 0
AllFound adjacency nodes stops shortest ss = (k : ℕ) (e : Search) → k < length ss → IsFound adjacency nodes stops shortest (slice_index_or ss k e).from (slice_index_or ss k e).row

-- what stands past the end
abbrev none : Result (List (Option Cost)) RouteError
none = Err errors.NoMemory

abbrev unmade : Search
unmade = record { from = 0; row = none }

not_both : (row : List (Option Cost)) (e : RouteError) → ◌≡◌ {A = Result (List (Option Cost)) RouteError} (Ok row) (Err e) → ⊥
not_both row e h = cc

row_from_found : (g : Graph) (adjacency : Adjacency) (nodes stops : List ℕ) (shortest : Bool) (from : ℕ) (r : Result (List (Option Cost)) RouteError) (row : List (Option Cost)) → IsAdjacency (hops g) adjacency.places adjacency.rows.items
    → IsFound adjacency nodes stops shortest from r → r ≡ Ok row → HasRoutesFrom g shortest nodes stops from row
row_from_found g adjacency nodes stops shortest from r row is found ok =
    ⊎_elim
    (λ (err : r ≡ Err errors.NoMemory). absurd (not_both row errors.NoMemory (sym ok ∙ err)))
    (λ (w : IsRowOrLack adjacency nodes stops shortest from r).
    let P : Result (List (Option Cost)) RouteError → Type 0 = λ q. IfOk q (IsRouteRow nodes stops from w.found) in
    routes_from g shortest nodes stops from w.found row (w.best (hops g) is) (subst P ok w.ok))
    found

pub as_many_oks : (rows : List (List (Option Cost))) → length (oks rows) ≡ length rows
as_many_oks rows = length-map rows (λ (l : List (Option Cost)). let r : Result (List (Option Cost)) RouteError = Ok l in r)

ok_at : (rows : List (List (Option Cost))) (rest found : List (Result (List (Option Cost)) RouteError)) (i : ℕ) → oks rows ++ rest ≡ found → i < length rows → get_or found i none ≡ Ok (get_or rows i [])
ok_at rows rest found i parts lt =
    ap (λ (l : List (Result (List (Option Cost)) RouteError)). get_or l i none) (sym parts)
    ∙ get_or_append_left (oks rows) rest none i (omega (arith, lt, as_many_oks rows))
    ∙ get_or-map (λ (l : List (Option Cost)). let r : Result (List (Option Cost)) RouteError = Ok l in r) rows i [] none lt

-- WHAT WAS FOUND OF THE FIRST NODES

pub below_found : (g : Graph) (adjacency : Adjacency) (nodes stops : List ℕ) (shortest : Bool) (rows : List (List (Option Cost))) (rest found : List (Result (List (Option Cost)) RouteError)) (count : ℕ)
    → IsAdjacency (hops g) adjacency.places adjacency.rows.items → AreFound adjacency nodes stops shortest found → oks rows ++ rest ≡ found → count ≤ length rows → HasRoutesBelow count g shortest nodes stops rows
below_found g adjacency nodes stops shortest rows rest found count is are parts few i from lt at =
    let within : i < length found = omega (arith, lt, few, as_many_oks rows, length-append (oks rows) rest, ap (λ (l : List (Result (List (Option Cost)) RouteError)). length l) parts) in
    row_from_found g adjacency nodes stops shortest from (get_or found i none) (get_or rows i []) is (are.each i from none within at) (ok_at rows rest found i parts (omega (arith, lt, few)))

err_same : (a b : RouteError) → ◌≡◌ {A = Result (List (Option Cost)) RouteError} (Err a) (Err b) → a ≡ b
err_same a b h = cc

refused_at : (g : Graph) (adjacency : Adjacency) (nodes stops : List ℕ) (shortest : Bool) (r : Result (List (Option Cost)) RouteError) (rows : List (List (Option Cost))) (i from : ℕ) (e : RouteError) → IsStrictlyIncreasing stops → ((id : ℕ) → Contains stops id ↔ Contains nodes id)
    → IsAdjacency (hops g) adjacency.places adjacency.rows.items → IsAt stops i from → HasRoutesBelow i g shortest nodes stops rows → IsFound adjacency nodes stops shortest from r → r ≡ Err e → IsRefusal g shortest nodes e
refused_at g adjacency nodes stops shortest r rows i from e up all is at below found err =
    ⊎_elim
    (λ (memory : r ≡ Err errors.NoMemory).
    let same : ◌≡◌ {A = Result (List (Option Cost)) RouteError} (Err e) (Err errors.NoMemory) = sym err ∙ memory in
    let P : RouteError → Type 0 = λ x. IsRefusal g shortest nodes x in subst P (sym (err_same e errors.NoMemory same)) tt)
    (λ (w : IsRowOrLack adjacency nodes stops shortest from r).
    let P : Result (List (Option Cost)) RouteError → Type 0 = λ q. IfErr q (NamesLack nodes stops from w.found) in
    refused g shortest nodes stops rows i from w.found e up all at below (w.best (hops g) is) (subst P err w.err))
    found

same_from : (old new : List Search) → length new ≡ length old → ((k : ℕ) (e : Search) → k < length old → (slice_index_or new k e).from ≡ (slice_index_or old k e).from)
    → map (λ (s : Search). s.from) new ≡ map (λ (s : Search). s.from) old
same_from [] [] long same = refl
same_from [] (n ∷ ns) long same = absurd (omega (arith, long))
same_from (o ∷ os) [] long same = absurd (omega (arith, long))
same_from (o ∷ os) (n ∷ ns) long same =
    ap (λ (x : ℕ). x ∷ map (λ (s : Search). s.from) ns) (same 0 o (omega arith))
    ∙ ap (λ (l : List ℕ). o.from ∷ l) (same_from os ns (omega (arith, long)) (λ k e lt. same (suc k) e (omega (arith, lt))))

-- all searches are from the same nodes, and were made
pub all_made : (adjacency : Adjacency) (nodes stops : List ℕ) (shortest : Bool) (old new : List Search) → AreSearched adjacency nodes stops shortest old new
    → AllFound adjacency nodes stops shortest new × (map (λ (s : Search). s.from) new ≡ map (λ (s : Search). s.from) old)
all_made adjacency nodes stops shortest old new h =
    (λ k e lt. (h.1 k e (omega (arith, lt, h.0))).found, same_from old new h.0 (λ k e lt. (h.1 k e lt).from))

-- the searches from the next nodes were made
module _ (adjacency : Adjacency) (nodes stops part : List ℕ) (shortest : Bool) (before : List (Result (List (Option Cost)) RouteError)) (ss : List Search) (from_part : map (λ (s : Search). s.from) ss ≡ part) (next : part ≡ take most_at_once (drop (length before) stops)) where
  as_many : length ss ≡ length part
  as_many = sym (length-map ss (λ (s : Search). s.from)) ∙ ap (λ (l : List ℕ). length l) from_part

  part_short : length part ≤ length stops - length before
  part_short = omega (arith, ap (λ (l : List ℕ). length l) next, length-take most_at_once (drop (length before) stops), length-drop (length before) stops)

  part_within : length part ≤ most_at_once
  part_within = omega (arith, ap (λ (l : List ℕ). length l) next, length-take most_at_once (drop (length before) stops))

  -- from which node a search is
  from_at : (k : ℕ) → k < length ss → (get_or ss k unmade).from ≡ get_or stops (length before + k) 0
  from_at k lt =
      let few : k < most_at_once = omega (arith, lt, as_many, part_within) in
      sym (get_or-map (λ (s : Search). s.from) ss k unmade 0 lt)
      ∙ ap (λ (l : List ℕ). get_or l k 0) (from_part ∙ next)
      ∙ get_or-take most_at_once (drop (length before) stops) k 0 few
      ∙ get_or-drop (length before) stops k 0

  row_at : (k : ℕ) (d : Result (List (Option Cost)) RouteError) → k < length ss → get_or (rows_found ss) k d ≡ (get_or ss k unmade).row
  row_at k d lt = get_or-map (λ (s : Search). s.row) ss k unmade d lt

  found_later : AllFound adjacency nodes stops shortest ss → (i from : ℕ) (d : Result (List (Option Cost)) RouteError) → length before ≤ i → i < length before + length ss → IsAt stops i from → IsFound adjacency nodes stops shortest from (get_or (before ++ rows_found ss) i d)
  found_later made i from d ge lt at =
      let k : ℕ = i - length before in
      let within : k < length ss = omega (arith, ge, lt) in
      let place : length before + k ≡ i = omega (arith, ge) in
      let its : (get_or ss k unmade).from ≡ from = from_at k within ∙ ap (λ (n : ℕ). get_or stops n 0) place ∙ at.is in
      let row : get_or (before ++ rows_found ss) i d ≡ (get_or ss k unmade).row = get_or-append_right before (rows_found ss) (length before) i d refl ge ∙ row_at k d within in
      let P : ℕ → Type 0 = λ n. IsFound adjacency nodes stops shortest n (get_or ss k unmade).row in
      let Q : Result (List (Option Cost)) RouteError → Type 0 = λ r. IsFound adjacency nodes stops shortest from r in
      subst Q (sym row) (subst P its (made k unmade within))

  pub found_more : length before ≤ length stops → AreFound adjacency nodes stops shortest before → AllFound adjacency nodes stops shortest ss → AreFound adjacency nodes stops shortest (before ++ rows_found ss)
  found_more short are made =
      let size : length (before ++ rows_found ss) ≡ length before + length ss = omega (arith, length-append before (rows_found ss), length-map ss (λ (s : Search). s.row)) in
      record {
        few = omega (arith, size, as_many, part_short, short);
        each = λ i from d lt at. ⊎_elim
            (λ (first : i < length before).
            let Q : Result (List (Option Cost)) RouteError → Type 0 = λ r. IsFound adjacency nodes stops shortest from r in
            subst Q (sym (get_or_append_left before (rows_found ss) d i first)) (are.each i from d first at))
            (λ (later : length before ≤ i). found_later made i from d later (omega (arith, lt, size)) at)
            (cases_lt i (length before));
      }

-- a search stops those behind it
pub stopped : (found : List (Result (List (Option Cost)) RouteError)) (rows : List (List (Option Cost))) (left rest : List Search) (s : Search) (e : RouteError) → left ≡ s ∷ rest → s.row ≡ Err e
    → oks rows ++ rows_found left ≡ found → IsStopped found e
stopped found rows left rest s e is err parts =
    IsStopped.behind rows (rows_found rest)
    (ap (λ (r : Result (List (Option Cost)) RouteError). oks rows ++ r ∷ rows_found rest) (sym err)
    ∙ ap (λ (l : List Search). oks rows ++ rows_found l) (sym is) ∙ parts)

-- searches are turned to nodes one by one
pub turned_more : (old new : List Search) (stops : List ℕ) (i : ℕ) → map (λ (s : Search). s.from) (take i old) ≡ take i stops → IsTurnedAt i (slice_index stops i) old new → i < length stops
    → map (λ (s : Search). s.from) (take (i + 1) new) ≡ take (i + 1) stops
turned_more old new stops i so turned lt =
    let d : Search = record { from = 0; row = Err errors.NoMemory } in
    ap (map (λ (s : Search). s.from)) (take_more new i d turned.within)
    ∙ map-append (λ (s : Search). s.from) (take i new) (get_or new i d ∷ [])
    ∙ ap (λ (l : List ℕ). l ++ (get_or new i d).from ∷ []) (turned.before ∙ so)
    ∙ ap (λ (n : ℕ). take i stops ++ n ∷ []) (turned.at d)
    ∙ sym (take_more stops i 0 lt)

-- each search is from a node of hosts
part_all : (P : ℕ → Type 0) (stops : List ℕ) (n : ℕ) → All P stops → All P (take most_at_once (drop n stops))
part_all P stops n all k d lt =
    let few : k < most_at_once = omega (arith, lt, length-take most_at_once (drop n stops)) in
    let within : n + k < length stops = omega (arith, lt, length-take most_at_once (drop n stops), length-drop n stops) in
    subst P (sym (get_or-take most_at_once (drop n stops) k d few ∙ get_or-drop n stops k d)) (all (n + k) d within)

pub to_search : (nodes stops part : List ℕ) (n : ℕ) (ss : List Search) → All (Contains nodes) stops → part ≡ take most_at_once (drop n stops) → map (λ (s : Search). s.from) ss ≡ part → (k : ℕ) (d : Search) → k < length ss → IsToSearch nodes (slice_index_or ss k d)
to_search nodes stops part n ss all next same k d lt =
    let within : k < length part = omega (arith, lt, ap (λ (l : List ℕ). length l) same, length-map ss (λ (s : Search). s.from)) in
    let is : get_or part k 0 ≡ (slice_index_or ss k d).from = ap (λ (l : List ℕ). get_or l k 0) (sym same) ∙ get_or-map (λ (s : Search). s.from) ss k d 0 lt in
    record { from = subst (Contains nodes) is (subst (λ (l : List ℕ). All (Contains nodes) l) (sym next) (part_all (Contains nodes) stops n all) k 0 within) }

-- REFUSALS

-- the error is that of the node behind the rows
refused_behind : (g : Graph) (adjacency : Adjacency) (nodes stops : List ℕ) (shortest : Bool) (found : List (Result (List (Option Cost)) RouteError)) (e : RouteError) → IsStrictlyIncreasing stops → ((id : ℕ) → Contains stops id ↔ Contains nodes id)
    → IsAdjacency (hops g) adjacency.places adjacency.rows.items → AreFound adjacency nodes stops shortest found → IsStopped found e → IsRefusal g shortest nodes e
refused_behind g adjacency nodes stops shortest found e up all is are (IsStopped.want memory) = let P : RouteError → Type 0 = λ x. IsRefusal g shortest nodes x in subst P (sym memory) tt
refused_behind g adjacency nodes stops shortest found e up all is are (IsStopped.behind rows rest parts) =
    let i : ℕ = length rows in
    let long : length (oks rows) ≡ i = as_many_oks rows in
    let there : i < length found = omega (arith, long, length-append (oks rows) (Err e ∷ rest), ap (λ (l : List (Result (List (Option Cost)) RouteError)). length l) parts) in
    let err : get_or found i none ≡ Err e =
    ap (λ (l : List (Result (List (Option Cost)) RouteError)). get_or l i none) (sym parts)
    ∙ ap (λ (n : ℕ). get_or (oks rows ++ Err e ∷ rest) n none) (sym long)
    ∙ get_or-append_seam (oks rows) (Err e) rest none in
    let from : ℕ = get_or stops i 0 in
    let at : IsAt stops i from = record { within = omega (arith, there, are.few); is = refl } in
    refused_at g adjacency nodes stops shortest (get_or found i none) rows i from e up all is at
    (below_found g adjacency nodes stops shortest rows (Err e ∷ rest) found i is are parts (omega arith)) (are.each i from none there at) err

pub refused_in : (g : Graph) (adjacency : Adjacency) (nodes stops : List ℕ) (shortest : Bool) (e : RouteError) → IsStrictlyIncreasing stops → ((id : ℕ) → Contains stops id ↔ Contains nodes id)
    → IsAdjacency (hops g) adjacency.places adjacency.rows.items → IsRefused adjacency nodes stops shortest e → IsRefusal g shortest nodes e
refused_in g adjacency nodes stops shortest e up all is h = refused_behind g adjacency nodes stops shortest h.found e up all is h.are h.stopped

-- THE TABLE

-- these rows were found from all stops
pub record AreRowsFound (g : Graph) (adjacency : Adjacency) (nodes stops ids : List ℕ) (shortest : Bool) (rows : List (List (Option Cost))) : Type 0 where
  pub is : ids ≡ stops
  pub adjacency_is : IsAdjacency (hops g) adjacency.places adjacency.rows.items
  pub found : AreFound adjacency nodes ids shortest (oks rows)
  pub all : length rows ≡ length ids

module _ (g : Graph) (adjacency : Adjacency) (nodes stops ids : List ℕ) (shortest : Bool) (rows : List (List (Option Cost))) (h : AreRowsFound g adjacency nodes stops ids shortest rows) where
  as_many_rows : length rows ≡ length stops
  as_many_rows = h.all ∙ ap (λ (l : List ℕ). length l) h.is

  all_below : HasRoutesBelow (length rows) g shortest nodes stops rows
  all_below =
      let B : List ℕ → Type 0 = λ xs. HasRoutesBelow (length rows) g shortest nodes xs rows in
      subst B h.is (below_found g adjacency nodes ids shortest rows [] (oks rows) (length rows) h.adjacency_is h.found (append-nil (oks rows)) (omega arith))

  -- each route that hosts need is there
  pub whole_found : IsStrictlyIncreasing stops → ((id : ℕ) → Contains stops id ↔ Contains nodes id) → (a b : ℕ) → IsNeeded nodes a b → (c : Cost) × (route_at stops rows a b ≡ Some c) × IsRoute g shortest a b c
  whole_found up all a b need = routes_whole g shortest nodes stops rows (length rows) up all (omega (arith, as_many_rows)) all_below a b need

  -- and each that is kept is a route
  pub sound_found : (a b : ℕ) (c : Cost) → route_at stops rows a b ≡ Some c → IsRoute g shortest a b c
  sound_found = routes_sound g shortest nodes stops rows (length rows) (omega (arith, as_many_rows)) all_below

  -- for each two nodes of hosts
  pub table_found : IsStrictlyIncreasing stops → ((id : ℕ) → Contains stops id ↔ Contains nodes id) → IsTable g shortest nodes (map_of stops rows)
  table_found up all = record {
    each = λ a b from to.
        let p = at_contains stops a ((all a).1 from) in
        let q = at_contains stops b ((all b).1 to) in
        let found = (all_below p.0 a (omega (arith, p.1.within, as_many_rows)) p.1).each q.0 b q.1 in
        let is = routes_kept stops rows a b ∙ route_placed stops rows a b p.0 q.0 (place_found stops p.0 a up p.1) (place_found stops q.0 b up q.1) in
        subst (λ (o : Option Cost). IsRouteIfAny g shortest a b o) (sym is) found;
    others = λ a b some.
        let there = kept_between stops rows a b some in
        ((all a).0 there.0, (all b).0 there.1);
  }
