use Rattle.net_routes.proofs.KeptRowLemmas.{all_have, all_push, rows_push}
use Rattle.net_routes.proofs.route_rows.RouteRows.push.Goals as goal

pub invariant_of-self : goal.invariant_of-self
invariant_of-self c = all_have _ _ c.self.inside.rows.items c.keep_row.ensures.kept c.self.invariant

pub invariant_of-self-in_err-push : goal.invariant_of-self-in_err-push
invariant_of-self-in_err-push c = rw c.in_err-push.ensures.items (all_have _ _ c.self.inside.rows.items c.keep_row.ensures.kept c.self.invariant)

pub invariant_of-self-2 : goal.invariant_of-self-2
invariant_of-self-2 c = rw c.in_ok-push.ensures.items (all_push _ _ c.self.inside.rows.items _ c.keep_row.ensures.kept c.self.invariant c.in_ok-kept.ensures.costs)

pub returns : goal.returns
returns c = rw (c.in_ok-push.ensures.items, ← c.self.view_is) (rows_push _ _ c.self.inside.rows.items _ c.args.row.now c.keep_row.ensures.kept c.self.invariant c.in_ok-kept.ensures.row)
