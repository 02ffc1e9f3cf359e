use Rattle.std.proofs.Common.{◌≡◌, ℕ, ◌+◌, length, Option, sym, subst, arith}
use Rattle.net_routes.specs.inside.LeastSteps.{IsLeastIf, IsNeededTo}
use Rattle.net_routes.proofs.StopLemmas.{to_none, to_more}
use Rattle.net_routes.proofs.table.Routes.least_from_stop.Goals as goal

pub loop-to-init : goal.loop-to-init
loop-to-init c = to_none c.args.nodes.now c.args.stops.now c.args.self.now c.args.from

pub loop-to-preserved : goal.loop-to-preserved
loop-to-preserved c =
    let nodes = c.args.nodes.now in
    let stops = c.args.stops.now in
    let routes = c.args.self.now in
    let P : Option ℕ → Type 0 = λ o. IsLeastIf (IsNeededTo nodes stops c.args.from (c.loop-to.to + 1)) stops routes o in
    subst P (sym c.lesser-least.ensures) (to_more nodes stops routes c.args.from c.loop-to.to c.loop-to.least c.needed_latency.result c.loop-to.invariant c.needed_latency.ensures)

pub returns : goal.returns
returns c =
    let stops = c.args.stops.now in
    let all : c.loop-to.to ≡ length stops = omega arith in
    let H : ℕ → Type 0 = λ n. IsLeastIf (IsNeededTo c.args.nodes.now stops c.args.from n) stops c.args.self.now c.loop-to.least in
    subst H all c.loop-to.invariant
