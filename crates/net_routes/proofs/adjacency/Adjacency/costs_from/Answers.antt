use Rattle.std.proofs.Common.{◌≡◌, List, length, Option, None, ◌∙◌, ap, sym, subst, arith}
use Rattle.std.proofs.lemmas.Result.{IfOk-weaker}
use Rattle.net_routes.specs.declared.cost.Cost.{Cost}
use Rattle.net_routes.specs.declared.arc.Arc.{Arc}
use Rattle.net_routes.specs.Walk.{Goes}
use Rattle.net_routes.specs.inside.Places.{place_of}
use Rattle.net_routes.specs.inside.Path.{AreArcs, IsBest}
use Rattle.net_routes.specs.inside.Adjacency.{IsAdjacency, cost_to}
use Rattle.net_routes.proofs.PlaceLemmas.{place_at}
use Rattle.net_routes.proofs.AdjacencyLemmas.{adjacency_best, adjacency_alone}
use Rattle.net_routes.proofs.adjacency.Adjacency.costs_from.Goals as goal

pub costs_of-requires-clause-start : goal.costs_of-requires-clause-start
costs_of-requires-clause-start c =
    let at = place_at c.args.self.now.places c.args.node c.in-Some.start (sym c.find.ensures.place ∙ c.in-Some.is) in
    omega (arith, at.within, c.requires.size, ap (λ (rows : List (List Arc)). length rows) c.deref.ensures.value)

pub costs_of-requires-clause-arcs : goal.costs_of-requires-clause-arcs
costs_of-requires-clause-arcs c =
    let P : List (List Arc) → Type 0 = λ rows. AreArcs rows in
    subst P (sym c.deref.ensures.value) c.requires.arcs

pub returns-in-Some : goal.returns-in-Some
returns-in-Some c hops adjacency =
    let ids = c.args.self.now.places in
    let at = place_at ids c.args.node c.in-Some.start (sym c.find.ensures.place ∙ c.in-Some.is) in
    let N : List (List Arc) → Type 0 = λ rows. IsAdjacency hops ids rows in
    let here : IsAdjacency hops ids c.deref.result.now = subst N (sym c.deref.ensures.value) adjacency in
    IfOk-weaker c.costs_of.result _ _ (λ v k. adjacency_best hops ids c.deref.result.now c.args.shortest c.in-Some.start c.args.node v.items c.find.ensures.rising here at k) c.costs_of.ensures

pub returns-in-None : goal.returns-in-None
returns-in-None c hops adjacency =
    let ids = c.args.self.now.places in
    let none : place_of ids c.args.node ≡ None = sym c.find.ensures.place ∙ c.in-None.is in
    let P : List (Option Cost) → Type 0 = λ costs. IsBest (Goes hops c.args.shortest c.args.node) (cost_to ids costs) in
    subst P (sym c.new.ensures.items) (adjacency_alone hops ids c.args.self.now.rows.items c.args.shortest c.args.node c.find.ensures.rising adjacency none)
