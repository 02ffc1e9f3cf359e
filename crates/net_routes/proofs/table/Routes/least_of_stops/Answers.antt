use Rattle.std.proofs.Common.{◌≡◌, ℕ, ◌+◌, length, Option, sym, subst, arith}
use Rattle.net_routes.specs.Least.{IsLookahead}
use Rattle.net_routes.specs.inside.LeastSteps.{IsLeastIf, IsNeededFirst}
use Rattle.net_routes.proofs.StopLemmas.{stops_none, stops_more, stops_least}
use Rattle.net_routes.proofs.table.Routes.least_of_stops.Goals as goal

pub loop-from-init : goal.loop-from-init
loop-from-init c = stops_none c.args.nodes.now c.args.stops.now c.args.self.now (length c.args.stops.now)

pub loop-from-preserved : goal.loop-from-preserved
loop-from-preserved c =
    let nodes = c.args.nodes.now in
    let stops = c.args.stops.now in
    let routes = c.args.self.now in
    let P : Option ℕ → Type 0 = λ o. IsLeastIf (IsNeededFirst nodes stops (c.loop-from.from + 1) (length stops)) stops routes o in
    subst P (sym c.lesser-least.ensures) (stops_more nodes stops routes (length stops) c.loop-from.from c.loop-from.least c.least_from_stop.result c.loop-from.invariant c.least_from_stop.ensures)

pub returns-in-Some : goal.returns-in-Some
returns-in-Some c =
    let nodes = c.args.nodes.now in
    let stops = c.args.stops.now in
    let routes = c.args.self.now in
    let all : c.loop-from.from ≡ length stops = omega arith in
    let H : ℕ → Type 0 = λ n. IsLeastIf (IsNeededFirst nodes stops n (length stops)) stops routes c.loop-from.least in
    let P : Option ℕ → Type 0 = λ o. IsLookahead nodes routes o in
    subst P c.in-Some.is (stops_least nodes stops routes c.loop-from.least c.requires.between c.requires.routes (subst H all c.loop-from.invariant))

pub returns-in-None : goal.returns-in-None
returns-in-None c =
    let nodes = c.args.nodes.now in
    let stops = c.args.stops.now in
    let routes = c.args.self.now in
    let all : c.loop-from.from ≡ length stops = omega arith in
    let H : ℕ → Type 0 = λ n. IsLeastIf (IsNeededFirst nodes stops n (length stops)) stops routes c.loop-from.least in
    let P : Option ℕ → Type 0 = λ o. IsLookahead nodes routes o in
    subst P c.in-None.is (stops_least nodes stops routes c.loop-from.least c.requires.between c.requires.routes (subst H all c.loop-from.invariant))
