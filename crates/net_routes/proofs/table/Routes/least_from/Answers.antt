use Rattle.std.proofs.Common.{◌≡◌, ℕ, ◌+◌, length, Option, sym, subst, arith}
use Rattle.net_routes.specs.inside.LeastSteps.{IsLeastIf, IsFromTo}
use Rattle.net_routes.proofs.LeastLemmas.{from_none, from_more}
use Rattle.net_routes.proofs.table.Routes.least_from.Goals as goal

pub loop-other-init : goal.loop-other-init
loop-other-init c = from_none c.args.nodes.now c.args.self.now c.args.host

pub loop-other-preserved : goal.loop-other-preserved
loop-other-preserved c =
    let nodes = c.args.nodes.now in
    let routes = c.args.self.now in
    let P : Option ℕ → Type 0 = λ o. IsLeastIf (IsFromTo c.args.host (c.loop-other.other + 1)) nodes routes o in
    subst P (sym c.lesser-least.ensures) (from_more nodes routes c.args.host c.loop-other.other c.loop-other.least c.latency_between.result c.loop-other.invariant c.latency_between.ensures)

pub returns : goal.returns
returns c =
    let nodes = c.args.nodes.now in
    let all : c.loop-other.other ≡ length nodes = omega arith in
    let H : ℕ → Type 0 = λ n. IsLeastIf (IsFromTo c.args.host n) nodes c.args.self.now c.loop-other.least in
    subst H all c.loop-other.invariant
