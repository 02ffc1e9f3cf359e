use Rattle.std.proofs.Common.{◌≡◌, ◌+◌, ◌<◌, List, [], ◌∷◌, ◌++◌, length, take, get_or, set, Option, Some, None, ◌∙◌, ap, sym, subst, arith, length-set}
use Rattle.std.specs.Prelude.{IfSome, ◌⊎◌}
use Rattle.std.proofs.lemmas.List.{take_more, get_or_read}
use Rattle.net_routes.specs.declared.cost.Cost.{Cost}
use Rattle.net_routes.specs.declared.arc.Arc.{Arc}
use Rattle.net_routes.specs.Cost.{nothing, and_then, IsAsGood}
use Rattle.net_routes.specs.inside.Path.{HasArc, IsBest, then_arc}
use Rattle.net_routes.proofs.ArcLemmas.{found, arcs_more}
use Rattle.net_routes.proofs.arcs.cheapest_arcs.Goals as goal

pub loop-arc-preserved : goal.loop-arc-preserved
loop-arc-preserved c =
    let arcs = c.args.arcs.now in
    let i = c.loop-arc.arc-index in
    let best = c.loop-arc.best.items in
    let now = c.better_of-cost.result in
    let lt : i < length arcs = omega arith in
    let d : Arc = record { to = 0; cost = record { latency = 0; reliability = 0 } } in
    let x = get_or arcs i d in
    let more : take (i + 1) arcs ≡ take i arcs ++ x ∷ [] = take_more arcs i d lt in
    let within : x.to < length best = omega (arith, (c.requires i d lt).ends, c.loop-arc.invariant.size) in
    let known : c.index.result.now ≡ get_or best x.to None = get_or_read best x.to c.index.result.now within c.index.ensures None in
    let alone : c.extended.result ≡ then_arc nothing x = c.extended.ensures ∙ ap (λ (k : Cost). and_then k x.cost) c.no_cost.ensures in
    let E : Option Cost → Type 0 = λ o. (o ≡ Some now) ⊎ (now ≡ c.extended.result) in
    let F : Cost → Type 0 = λ k. (get_or best x.to None ≡ Some now) ⊎ (now ≡ k) in
    let K : Option Cost → Type 0 = λ o. IfSome o (IsAsGood now) in
    let G : Cost → Type 0 = λ k. IsAsGood now k in
    let T : List Arc → Type 0 = λ t. IsBest (HasArc t) (found (set best x.to (Some now))) in
    record {
      size = length-set best x.to (Some now) ∙ c.loop-arc.invariant.size;
      best = subst T (sym more) (arcs_more best (take i arcs) x now within (subst F alone (subst E known c.better_of-cost.ensures.either)) (subst K known c.better_of-cost.ensures.known) (subst G alone c.better_of-cost.ensures.cost) c.loop-arc.invariant.best);
    }
