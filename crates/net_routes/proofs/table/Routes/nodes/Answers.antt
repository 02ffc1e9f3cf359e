use Rattle.std.proofs.Common.{ℕ, List, sym, subst}
use Rattle.net_routes.specs.RouteMap.{RouteMap}
use Rattle.net_routes.specs.Routes.{AreBetween}
use Rattle.net_routes.proofs.RouteMapLemmas.{kept_between}
use Rattle.net_routes.proofs.table.Routes.nodes.Goals as goal

pub returns : goal.returns
returns c =
    let stops = c.self.inside.stops in
    let P : RouteMap → Type 0 = λ r. AreBetween stops r in
    let Q : List ℕ → Type 0 = λ xs. AreBetween xs c.args.self.now in
    subst Q (sym c.as_slice.ensures.ids) (subst P c.self.view_is (kept_between stops c.self.inside.rows))
