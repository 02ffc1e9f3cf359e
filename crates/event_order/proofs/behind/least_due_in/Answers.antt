use Rattle.std.proofs.Common.{sym}
use Rattle.event_order.proofs.EventsLemmas.{due_of_first, least_of_first}
use Rattle.event_order.proofs.behind.least_due_in.Goals as goal

pub returns-in-Some-clause-first : goal.returns-in-Some-clause-first
returns-in-Some-clause-first c = sym (due_of_first c.args.rest.now.entries _ c.in-Some.ensures.first)

pub returns-in-Some-clause-least : goal.returns-in-Some-clause-least
returns-in-Some-clause-least c = least_of_first c.args.rest.now.entries _ c.in-Some.ensures.first c.in-Some.ensures.all_from
