use Rattle.std.proofs.Common.{◌≡◌, ℕ, ◌+◌, length, Option, sym, subst, arith}
use Rattle.net_routes.specs.Least.{IsLookahead}
use Rattle.net_routes.specs.inside.LeastSteps.{IsLeastIf, IsFromFirst}
use Rattle.net_routes.proofs.LeastLemmas.{first_none, first_more, lookahead_least}
use Rattle.net_routes.proofs.table.Routes.least_of_hosts.Goals as goal

pub loop-host-init : goal.loop-host-init
loop-host-init c = first_none c.args.nodes.now c.args.self.now (length c.args.nodes.now)

pub loop-host-preserved : goal.loop-host-preserved
loop-host-preserved c =
    let nodes = c.args.nodes.now in
    let routes = c.args.self.now in
    let P : Option ℕ → Type 0 = λ o. IsLeastIf (IsFromFirst (c.loop-host.host + 1) (length nodes)) nodes routes o in
    subst P (sym c.lesser-least.ensures) (first_more nodes routes (length nodes) c.loop-host.host c.loop-host.least c.least_from.result (omega arith) c.loop-host.invariant c.least_from.ensures)

pub returns-in-Some : goal.returns-in-Some
returns-in-Some c =
    let nodes = c.args.nodes.now in
    let routes = c.args.self.now in
    let all : c.loop-host.host ≡ length nodes = omega arith in
    let H : ℕ → Type 0 = λ n. IsLeastIf (IsFromFirst n (length nodes)) nodes routes c.loop-host.least in
    let P : Option ℕ → Type 0 = λ o. IsLookahead nodes routes o in
    subst P c.in-Some.is (lookahead_least nodes routes c.loop-host.least (subst H all c.loop-host.invariant))

pub returns-in-None : goal.returns-in-None
returns-in-None c =
    let nodes = c.args.nodes.now in
    let routes = c.args.self.now in
    let all : c.loop-host.host ≡ length nodes = omega arith in
    let H : ℕ → Type 0 = λ n. IsLeastIf (IsFromFirst n (length nodes)) nodes routes c.loop-host.least in
    let P : Option ℕ → Type 0 = λ o. IsLookahead nodes routes o in
    subst P c.in-None.is (lookahead_least nodes routes c.loop-host.least (subst H all c.loop-host.invariant))
