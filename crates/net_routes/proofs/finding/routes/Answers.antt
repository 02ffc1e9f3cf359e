use Rattle.std.proofs.Common.{ℕ, List, refl, sym, ◌∙◌, subst}
use Rattle.std.specs.Prelude.{◌↔◌, Contains}
use Rattle.std.proofs.lemmas.List.Elements.{Contains-get_or}
use Rattle.std.proofs.lemmas.Result.{err_from_is_err_and}
use Rattle.std.specs.List.Sorted.{IsStrictlyIncreasing}
use Rattle.net_routes.specs.declared.hop.Hop.{Hop}
use Rattle.net_routes.specs.Walk.{hops}
use Rattle.net_routes.specs.inside.Adjacency.{IsAdjacency}
use Rattle.net_routes.specs.Routes.{route_in}
use Rattle.net_routes.specs.inside.RouteMaps.{map_of}
use Rattle.net_routes.proofs.RouteLemmas.{some_route, some_there, stops_of}
use Rattle.net_routes.proofs.RouteMapLemmas.{routes_kept}
use Rattle.net_routes.proofs.FoundLemmas.{AreRowsFound, refused_in, whole_found, sound_found, table_found}
use Rattle.net_routes.proofs.finding.routes.Goals as goal

pub find_rows-requires-clause-stops : goal.find_rows-requires-clause-stops
find_rows-requires-clause-stops g c κs within =
    let ids = c.as_slice-ids.result.now in
    let all = stops_of ids c.from-stops.result c.in_ok-from_slice.field-0.items c.args.nodes.now c.as_slice-ids.ensures.ids c.in_ok-from_slice.ensures.items c.from-stops.ensures.ids in
    record { each = λ k d lt. (all _).0 (Contains-get_or ids k d lt) }

pub returns-in_err-rows-clause-err : goal.returns-in_err-rows-clause-err
returns-in_err-rows-clause-err g c =
    let graph = c.args.graph.now in
    let nodes = c.args.nodes.now in
    let ids = c.as_slice-ids.result.now in
    let all = stops_of ids c.from-stops.result c.in_ok-from_slice.field-0.items nodes c.as_slice-ids.ensures.ids c.in_ok-from_slice.ensures.items c.from-stops.ensures.ids in
    let U : List ℕ → Type 0 = λ xs. IsStrictlyIncreasing xs in
    let N : List Hop → Type 0 = λ ss. IsAdjacency ss c.in_ok-adjacency.adjacency.places c.in_ok-adjacency.adjacency.rows.items in
    let adjacency : IsAdjacency (hops graph) c.in_ok-adjacency.adjacency.places c.in_ok-adjacency.adjacency.rows.items = subst N (c.as_slice.ensures.value ∙ c.in_ok-hops.ensures.hops) c.in_ok-adjacency.ensures.adjacency in
    let p = err_from_is_err_and c.from_residual-in_err-rows.result c.from_residual-in_err-rows.ensures.1 in
    rw (p.1, p.2) (refused_in graph c.in_ok-adjacency.adjacency nodes ids c.args.shortest c.in_err-rows.field-0.0 (subst U (sym c.as_slice-ids.ensures.ids) c.as_slice-ids.ensures.rising) all adjacency c.in_err-rows.ensures.err)

-- the rows that are kept
rows_are : (g : _) (c : goal.After-drop-hops-2 g) → AreRowsFound c.args.graph.now c.in_ok-adjacency.adjacency c.args.nodes.now c.from-stops.result c.as_slice-ids.result.now c.args.shortest c.in_ok-rows.rows
rows_are g c =
    let N : List Hop → Type 0 = λ ss. IsAdjacency ss c.in_ok-adjacency.adjacency.places c.in_ok-adjacency.adjacency.rows.items in
    record {
      is = c.as_slice-ids.ensures.ids;
      adjacency_is = subst N (c.as_slice.ensures.value ∙ c.in_ok-hops.ensures.hops) c.in_ok-adjacency.ensures.adjacency;
      found = c.in_ok-rows.ensures.ok;
      all = c.in_ok-rows.ensures.all;
    }

stops_are : (g : _) (c : goal.After-drop-hops-2 g) → (id : ℕ) → Contains c.from-stops.result id ↔ Contains c.args.nodes.now id
stops_are g c = stops_of c.from-stops.result c.from-stops.result c.in_ok-from_slice.field-0.items c.args.nodes.now refl c.in_ok-from_slice.ensures.items c.from-stops.ensures.ids

pub returns-clause-ok : goal.returns-clause-ok
returns-clause-ok g c a b need =
    let w = whole_found _ _ _ _ _ _ _ (rows_are g c) c.as_slice-ids.ensures.rising (stops_are g c) a b need in
    let stops = c.from-stops.result in
    let rows = c.in_ok-rows.rows in
    some_route c.args.graph.now c.args.shortest a b (route_in (map_of stops rows) a b) (w.0, routes_kept stops rows a b ∙ w.1, w.2)

pub returns-clause-whole : goal.returns-clause-whole
returns-clause-whole g c a b need =
    let w = whole_found _ _ _ _ _ _ _ (rows_are g c) c.as_slice-ids.ensures.rising (stops_are g c) a b need in
    let stops = c.from-stops.result in
    let rows = c.in_ok-rows.rows in
    some_there (route_in (map_of stops rows) a b) w.0 (routes_kept stops rows a b ∙ w.1)

pub returns-clause-sound : goal.returns-clause-sound
returns-clause-sound g c a b cost is =
    sound_found _ _ _ _ _ _ _ (rows_are g c) a b cost (sym (routes_kept c.from-stops.result c.in_ok-rows.rows a b) ∙ is)

pub returns-clause-table : goal.returns-clause-table
returns-clause-table g c = table_found _ _ _ _ _ _ _ (rows_are g c) c.as_slice-ids.ensures.rising (stops_are g c)
