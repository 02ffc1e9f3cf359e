use Rattle.std.proofs.Common.{ap, sym, ◌∙◌}
use Rattle.net_routes.specs.RouteMap.{RouteMap}
use Rattle.net_routes.specs.Routes.{route_in}
use Rattle.net_routes.proofs.RouteMapLemmas.{routes_kept}
use Rattle.net_routes.proofs.table.Routes.cost.Goals as goal

pub returns : goal.returns
returns c =
    c.cost_in.ensures
    ∙ sym (routes_kept c.self.inside.stops c.self.inside.rows c.args.from c.args.to)
    ∙ ap (λ (r : RouteMap). route_in r c.args.from c.args.to) c.self.view_is
