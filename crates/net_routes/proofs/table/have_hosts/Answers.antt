use Rattle.std.proofs.Common.{◌≡◌, ℕ, ◌<◌, List, length, take, get_or, refl, subst, arith}
use Rattle.std.specs.Prelude.{All, Contains}
use Rattle.std.proofs.lemmas.List.{take_all}
use Rattle.std.proofs.lemmas.List.Elements.{All-more}
use Rattle.net_routes.proofs.RouteRowLemmas.{hosts_on, one_host, contained_counted}
use Rattle.net_routes.proofs.PlaceLemmas.{contains_at}
use Rattle.net_routes.proofs.table.have_hosts.Goals as goal

pub loop-stop-preserved : goal.loop-stop-preserved
loop-stop-preserved c =
    let nodes = c.args.nodes.now in
    let stops = c.args.stops.now in
    let i = c.loop-stop.stop-index in
    let lt : i < length stops = omega arith in
    let stop = get_or stops i 0 in
    let is : c.hosts_on.result ≡ hosts_on nodes stop = c.hosts_on.ensures in
    let host = one_host nodes stop (omega (arith, is, c.if-hosts_on-eq0.false)) in
    All-more (λ (n : ℕ). Contains nodes n) stops i 0 lt c.loop-stop.invariant (contains_at nodes host.0 stop host.1)

pub returns-then-hosts_on-eq0 : goal.returns-then-hosts_on-eq0
returns-then-hosts_on-eq0 c =
    let nodes = c.args.nodes.now in
    let stops = c.args.stops.now in
    let i = c.loop-stop.stop-index in
    let lt : i < length stops = omega arith in
    let stop = get_or stops i 0 in
    let is : c.hosts_on.result ≡ hosts_on nodes stop = c.hosts_on.ensures in
    (λ never. absurd (let none : ⊥ = cc in none), λ all. absurd (omega (arith, is, c.if-hosts_on-eq0.true, contained_counted nodes stop (all i 0 lt))))

pub returns : goal.returns
returns c =
    let nodes = c.args.nodes.now in
    let stops = c.args.stops.now in
    let whole : take c.loop-stop.stop-index stops ≡ stops = take_all c.loop-stop.stop-index stops (omega arith) in
    let P : List ℕ → Type 0 = λ xs. All (Contains nodes) xs in
    (λ _. subst P whole c.loop-stop.invariant, λ _. refl)
