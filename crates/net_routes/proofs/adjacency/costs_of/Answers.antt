use Rattle.std.proofs.Common.{◌≡◌, ◌<◌, Bool, true, false, List, [], length, get_or, set, ◌∙◌, sym, refl, subst, arith, rules}
use Rattle.std.proofs.lemmas.List.{get_or_read}
use Rattle.net_routes.specs.declared.arc.Arc.{Arc}
use Rattle.net_routes.specs.inside.Path.{HasArc, HasWay, IsBest, IsBestTo}
use Rattle.net_routes.proofs.SearchLemmas.{row_arcs}
use Rattle.net_routes.proofs.ArcLemmas.{found, ways_alone, ways_shortest}
use Rattle.net_routes.proofs.adjacency.costs_of.Goals as goal

pub cheapest_arcs-requires : goal.cheapest_arcs-requires
cheapest_arcs-requires c =
    let rows = c.args.rows.now in
    let row : c.as_slice-arcs.result.now ≡ get_or rows c.args.start [] = c.as_slice-arcs.ensures ∙ get_or_read rows c.args.start c.index-rows-start.result c.requires.start c.index-rows-start.is [] in
    row_arcs rows c.args.start (length rows) c.as_slice-arcs.result.now c.requires.arcs refl row

pub returns-then-not-shortest : goal.returns-then-not-shortest
returns-then-not-shortest c =
    let rows = c.args.rows.now in
    let row : c.as_slice-arcs.result.now ≡ get_or rows c.args.start [] = c.as_slice-arcs.ensures ∙ get_or_read rows c.args.start c.index-rows-start.result c.requires.start c.index-rows-start.is [] in
    let R : List Arc → Type 0 = λ r. IsBest (HasArc r) (found c.in_ok-alone.alone.items) in
    let single : c.args.shortest ≡ false = search rules in
    let S : Bool → Type 0 = λ b. IsBest (HasWay rows b c.args.start) (found c.in_ok-alone.alone.items) in
    subst S (sym single) (ways_alone rows c.args.start c.in_ok-alone.alone.items (subst R row c.in_ok-alone.ensures.best))

pub cheapest_arc-requires : goal.cheapest_arc-requires
cheapest_arc-requires c =
    let rows = c.args.rows.now in
    let row : c.as_slice-arcs.result.now ≡ get_or rows c.args.start [] = c.as_slice-arcs.ensures ∙ get_or_read rows c.args.start c.index-rows-start.result c.requires.start c.index-rows-start.is [] in
    let arcs = row_arcs rows c.args.start (length rows) c.as_slice-arcs.result.now c.requires.arcs refl row in
    λ i d lt. (arcs i d lt).hop

pub returns : goal.returns
returns c =
    let rows = c.args.rows.now in
    let paths = c.in_ok-best.best.items in
    let row : c.as_slice-arcs.result.now ≡ get_or rows c.args.start [] = c.as_slice-arcs.ensures ∙ get_or_read rows c.args.start c.index-rows-start.result c.requires.start c.index-rows-start.is [] in
    let alone = c.cheapest_arc.result in
    let R : List Arc → Type 0 = λ r. IsBestTo r c.args.start alone in
    let any : c.args.shortest ≡ true = search rules in
    let within : c.args.start < length paths = omega (arith, c.requires.start, c.in_ok-best.ensures.size) in
    let S : Bool → Type 0 = λ b. IsBest (HasWay rows b c.args.start) (found (set paths c.args.start alone)) in
    subst S (sym any) (ways_shortest rows c.args.start alone paths within (subst R row c.cheapest_arc.ensures) c.in_ok-best.ensures.best)
