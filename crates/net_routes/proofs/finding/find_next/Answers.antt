use Rattle.std.proofs.Common.{◌≡◌, ℕ, ◌++◌, List, Option, Result, length, take, drop, sym, ap, ◌∙◌, subst}
use Rattle.std.proofs.lemmas.Result.{on_ok_weaker, MatchResult-weaker}
use Rattle.net_routes.specs.declared.cost.Cost.{Cost}
use Rattle.net_routes.specs.declared.error.RouteError.{RouteError}
use Rattle.net_routes.specs.declared.finding.Search.{Search}
use Rattle.net_routes.specs.inside.Found.{oks, rows_found, most_at_once, AreFound}
use Rattle.net_routes.proofs.FoundLemmas.{all_made, as_many_oks, found_more, to_search}
use Rattle.net_routes.proofs.finding.find_next.Goals as goal

pub search_all-requires-clause-from : goal.search_all-requires-clause-from
search_all-requires-clause-from g c κs within =
    to_search c.args.nodes.now c.args.stops.now c.next_stops.result.now c.len.result c.turn_to.new.searches.items c.requires.stops.each c.next_stops.ensures.next c.in_ok-turn_to.ensures

-- what was found before, and now
found : (g : _) (c : goal.After-add_found g) → AreFound c.args.adjacency.now c.args.nodes.now c.args.stops.now c.args.shortest (oks c.args.rows.now ++ rows_found c.as_slice.result.now)
found g c =
    let adjacency = c.args.adjacency.now in
    let nodes = c.args.nodes.now in
    let stops = c.args.stops.now in
    let part = c.next_stops.result.now in
    let made = all_made adjacency nodes stops c.args.shortest _ _ c.search_all.ensures in
    let next : part ≡ take most_at_once (drop (length (oks c.args.rows.now)) stops) = c.next_stops.ensures.next ∙ ap (λ (n : ℕ). take most_at_once (drop n stops)) (c.len.ensures ∙ sym (as_many_oks c.args.rows.now)) in
    let F : List Search → Type 0 = λ ss. AreFound adjacency nodes stops c.args.shortest (oks c.args.rows.now ++ rows_found ss) in
    subst F (sym c.as_slice.ensures.value) (found_more adjacency nodes stops part c.args.shortest (oks c.args.rows.now) c.search_all.new.searches.items (made.1 ∙ c.in_ok-turn_to.ensures) next c.requires.found.few c.requires.found made.0)

pub returns-clause-ok : goal.returns-clause-ok
returns-clause-ok g c =
    let F : List (Result (List (Option Cost)) RouteError) → Type 0 = λ l. AreFound c.args.adjacency.now c.args.nodes.now c.args.stops.now c.args.shortest l in
    on_ok_weaker c.add_found.result (λ is. subst F (sym is) (found g c)) c.add_found.ensures.ok

pub returns-clause-err : goal.returns-clause-err
returns-clause-err g c =
    MatchResult-weaker c.add_found.result c.add_found.ensures.err
    (λ x h. h)
    (λ e stopped. record { found = oks c.args.rows.now ++ rows_found c.as_slice.result.now; are = found g c; stopped = stopped })
