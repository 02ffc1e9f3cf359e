use Rattle.std.proofs.Common.{◌≡◌, suc, ◌∷◌, List, drop, drop-cons, ap, sym, ◌∙◌}
use Rattle.net_routes.specs.declared.finding.Search.{Search}
use Rattle.net_routes.proofs.FoundLemmas.{stopped}
use Rattle.net_routes.proofs.finding.add_found.Goals as goal

pub returns-in-Err-clause-err : goal.returns-in-Err-clause-err
returns-in-Err-clause-err c =
    let all : List Search = c.args.searches.now in
    let at = c.loop-each.each-index in
    let rest : List Search = drop (suc at) all in
    let is : drop at all ≡ c.each-item.result ∷ rest = drop-cons all at c.each-item.result c.loop-each-test.true ∙ ap (λ (s : Search). s ∷ rest) (sym c.each-item.is) in
    stopped _ c.loop-each.rows (drop at all) rest c.each-item.result c.in-Err.error is c.in-Err.is c.loop-each.invariant
