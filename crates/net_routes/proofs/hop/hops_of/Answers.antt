use Rattle.std.proofs.Common.{◌≡◌, List, take, ◌∙◌, ap, sym, subst, arith}
use Rattle.std.specs.Prelude.{flat_map}
use Rattle.std.proofs.lemmas.List.{take_all}
use Rattle.gml_graph.specs.declared.graph.Edge.{Edge}
use Rattle.net_routes.specs.declared.hop.Hop.{Hop}
use Rattle.net_routes.specs.Walk.{ways, AreHops}
use Rattle.net_routes.proofs.HopLemmas.{hops_sound}
use Rattle.net_routes.proofs.hop.hops_of.Goals as goal

pub returns-clause-sound : goal.returns-clause-sound
returns-clause-sound c =
    let graph = c.args.graph.now in
    let edges = c.as_slice-edges.result.now in
    let whole : take c.loop-edge.edge-index edges ≡ edges = take_all c.loop-edge.edge-index edges (omega arith) in
    let same : c.loop-edge.found.items ≡ flat_map (ways graph.directed) graph.edges = c.loop-edge.invariant ∙ ap (λ (es : List Edge). flat_map (ways graph.directed) es) (whole ∙ c.as_slice-edges.ensures.items) in
    let P : List Hop → Type 0 = λ ss. AreHops ss in
    subst P (sym same) (hops_sound graph.directed graph.edges c.as_slice-edges.ensures.edges)
