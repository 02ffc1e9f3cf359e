use Rattle.std.proofs.Common.{◌≡◌, ℕ, ◌+◌, ◌<◌, List, [], ◌∷◌, ◌++◌, length, take, get_or, Option, Some, ◌∙◌, ap, sym, subst, arith}
use Rattle.std.specs.Prelude.{◌⊎◌}
use Rattle.std.proofs.lemmas.List.{take_more}
use Rattle.net_routes.specs.declared.cost.Cost.{Cost}
use Rattle.net_routes.specs.declared.arc.Arc.{Arc}
use Rattle.net_routes.specs.Cost.{nothing, and_then, IsAsGood}
use Rattle.net_routes.specs.inside.Path.{IsBestTo, then_arc}
use Rattle.net_routes.proofs.ArcLemmas.{to_none, to_other, to_more}
use Rattle.net_routes.proofs.arcs.cheapest_arc.Goals as goal
use Rattle.net_routes.proofs.arcs.cheapest_arc.Goals.{then-arc-place, else-arc-place}

pub loop-arc-init : goal.loop-arc-init
loop-arc-init c = to_none c.args.place

pub loop-arc-preserved : goal.loop-arc-preserved
loop-arc-preserved c =
    let arcs = c.args.arcs.now in
    let place = c.args.place in
    let i = c.loop-arc.arc-index in
    let best = c.loop-arc.best in
    let lt : i < length arcs = omega arith in
    let d : Arc = record { to = 0; cost = record { latency = 0; reliability = 0 } } in
    let x = get_or arcs i d in
    let more : take (i + 1) arcs ≡ take i arcs ++ x ∷ [] = take_more arcs i d lt in
    let T : List Arc → Type 0 = λ t. IsBestTo t place c.if-arc-place.best in
    let B : Option Cost → Type 0 = λ o. IsBestTo (take i arcs ++ x ∷ []) place o in
    subst T (sym more) (elim c.if-arc-place.branch [
      | then-arc-place w ↦
          let now = w.better_of.result in
          let alone : w.extended.result ≡ then_arc nothing x = w.extended.ensures ∙ ap (λ (k : Cost). and_then k x.cost) w.no_cost.ensures in
          let F : Cost → Type 0 = λ k. (best ≡ Some now) ⊎ (now ≡ k) in
          let G : Cost → Type 0 = λ k. IsAsGood now k in
          let P : ℕ → Type 0 = λ p. IsBestTo (take i arcs) p best in
          let Q : ℕ → Type 0 = λ p. IsBestTo (take i arcs ++ x ∷ []) p (Some now) in
          let there : IsBestTo (take i arcs ++ x ∷ []) x.to (Some now) =
          to_more (take i arcs) x best now (subst F alone w.better_of.ensures.either) w.better_of.ensures.known (subst G alone w.better_of.ensures.cost) (subst P (sym w.if-arc-place.true) c.loop-arc.invariant) in
          subst B (sym w.best-is) (subst Q w.if-arc-place.true there)
      | else-arc-place w ↦ subst B (sym w.best-is) (to_other (take i arcs) x place best w.if-arc-place.false c.loop-arc.invariant)
    ])
