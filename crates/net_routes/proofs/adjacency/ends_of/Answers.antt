use Rattle.std.proofs.Common.{◌≡◌, ℕ, ◌<◌, List, [], ◌∷◌, ◌++◌, length, take, get_or, ◌∙◌, ap, subst, arith}
use Rattle.std.specs.Prelude.{All}
use Rattle.std.proofs.lemmas.List.{take_all}
use Rattle.net_routes.specs.declared.hop.Hop.{Hop}
use Rattle.net_routes.specs.inside.Adjacency.{ends_of}
use Rattle.net_routes.proofs.HopLemmas.{HasEnds, ends_more, ends_size, ends_next}
use Rattle.net_routes.proofs.adjacency.ends_of.Goals as goal

pub loop-hop-preserved : goal.loop-hop-preserved
loop-hop-preserved c =
    let hops = c.args.hops.now in
    let i = c.loop-hop.hop-index in
    let old = c.loop-hop.ends.items in
    let d : Hop = record { from = 0; to = 0; cost = record { latency = 0; reliability = 0 } } in
    let s = get_or hops i d in
    let lt : i < length hops = omega arith in
    let pushed : c.push-in-loop-hop.new.self.items ≡ (old ++ s.from ∷ []) ++ s.to ∷ [] = c.in_ok-push-2.ensures.items ∙ ap (λ (xs : List ℕ). xs ++ s.to ∷ []) c.in_ok-push.ensures.items in
    record {
      size = ends_size old c.push-in-loop-hop.new.self.items s i pushed c.loop-hop.invariant.size;
      ends = ends_more hops old c.push-in-loop-hop.new.self.items i d lt pushed c.loop-hop.invariant.ends;
      all = ends_next hops old c.push-in-loop-hop.new.self.items i d lt pushed c.loop-hop.invariant.all;
    }

pub returns-clause-ends : goal.returns-clause-ends
returns-clause-ends c =
    let hops = c.args.hops.now in
    let whole : take c.loop-hop.hop-index hops ≡ hops = take_all c.loop-hop.hop-index hops (omega arith) in
    let P : List Hop → Type 0 = λ ss. All (HasEnds c.loop-hop.ends.items) ss in
    subst P whole c.loop-hop.invariant.ends

pub returns-clause-all : goal.returns-clause-all
returns-clause-all c =
    let hops = c.args.hops.now in
    let whole : take c.loop-hop.hop-index hops ≡ hops = take_all c.loop-hop.hop-index hops (omega arith) in
    c.loop-hop.invariant.all ∙ ap ends_of whole
