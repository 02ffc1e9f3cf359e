use Rattle.std.proofs.Common.{sym, ◌∙◌}
use Rattle.net_routes.proofs.PlaceLemmas.{place_there, place_at}
use Rattle.net_routes.proofs.node_ids.NodeIds.place.Goals as goal

pub unreachable-requires : goal.unreachable-requires
unreachable-requires c =
    let w = place_there c.args.self.now c.args.id c.find.ensures.rising c.requires in
    let never : ⊥ = cc (w.1, c.find.ensures.place, c.in-None.is) in
    never

pub returns : goal.returns
returns c = place_at c.args.self.now c.args.id c.in-Some.place (sym c.find.ensures.place ∙ c.in-Some.is)
