use Rattle.std.proofs.Common.{◌≡◌, List, length, map, get_or, true, false, MatchOption, IfNone, ap, sym, ◌∙◌, subst}
use Rattle.std.proofs.lemmas.List.{with_items_is}
use Rattle.steal_workers.specs.declared.share.Share.{Share}
use Rattle.steal_workers.specs.inside.Shares.{Moves, Found, TookNone, is_marked}
use Rattle.steal_workers.proofs.ShareLists.{moves_length}
use Rattle.steal_workers.proofs.sweep.find_among.Goals as goal

pub returns : goal.returns
returns g c =
    let read = c.as_mut_slice.ensures.value in
    let long = moves_length _ _ c.find.ensures.same ∙ ap length read in
    let left = with_items_is c.args.shares.now c.find.new.shares (long ∙ sym c.args.shares.now.ok.0) in
    record {
      same = subst (λ (l : List (Share g.row.T.Denot) × List (Share g.row.T.Denot)). Moves l.0 l.1) (λ i. (read i, sym left i)) c.find.ensures.same;
      found = subst (λ (l : List (Share g.row.T.Denot) × List (Share g.row.T.Denot)). MatchOption c.find.result (TookNone l.0 l.1) (λ found. Found l.0 l.1 found.0 found.1)) (λ i. (read i, sym left i)) c.find.ensures.found;
      marked = subst (λ (l : List (Share g.row.T.Denot)). IfNone c.find.result (get_or (map is_marked l) c.args.place false ≡ true)) (sym left) c.find.ensures.marked;
    }
