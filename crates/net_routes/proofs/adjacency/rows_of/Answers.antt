use Rattle.std.proofs.Common.{◌≡◌, ◌+◌, ◌<◌, List, [], ◌∷◌, ◌++◌, length, take, get_or, sym, subst, arith}
use Rattle.std.proofs.lemmas.List.{take_more}
use Rattle.net_routes.specs.declared.hop.Hop.{Hop}
use Rattle.net_routes.specs.inside.Adjacency.{IsAdjacency}
use Rattle.net_routes.proofs.AdjacencyLemmas.{adjacency_more}
use Rattle.net_routes.proofs.adjacency.rows_of.Goals as goal

none : Hop
none = record { from = 0; to = 0; cost = record { latency = 0; reliability = 0 } }

pub add_arc-requires-clause-from : goal.add_arc-requires-clause-from
unfolding none
add_arc-requires-clause-from c = (c.requires c.loop-hop.hop-index none (omega arith)).0

pub add_arc-requires-clause-to : goal.add_arc-requires-clause-to
unfolding none
add_arc-requires-clause-to c = (c.requires c.loop-hop.hop-index none (omega arith)).1

pub loop-hop-preserved : goal.loop-hop-preserved
unfolding none
loop-hop-preserved c =
    let hops = c.args.hops.now in
    let i = c.loop-hop.hop-index in
    let lt : i < length hops = omega arith in
    let s = get_or hops i none in
    let more : take (i + 1) hops ≡ take i hops ++ s ∷ [] = take_more hops i none lt in
    let P : List Hop → Type 0 = λ ss. IsAdjacency ss c.args.places.now c.add_arc.new.rows.items in
    subst P (sym more) (adjacency_more (take i hops) c.args.places.now c.loop-hop.rows.items c.add_arc.new.rows.items s c.loop-hop.invariant c.in_ok-add_arc.ensures)
