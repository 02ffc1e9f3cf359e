use Rattle.std.proofs.Common.{sym, ◌∙◌}
use Rattle.std.proofs.lemmas.Bool.{OnFalse_from, OnTrue_from}
use Rattle.event_order.proofs.EventsLemmas.{comes_later, leads_all}
use Rattle.event_order.proofs.behind.leads.Goals as goal

pub returns-in-Some-clause-first : goal.returns-in-Some-clause-first
returns-in-Some-clause-first c =
    OnTrue_from c.is_earlier.result _ (λ is. leads_all c.args.event.now c.in-Some.least.now c.args.rest.now.entries (sym c.is_earlier.ensures ∙ is) c.in-Some.ensures.all_from)

pub returns-in-Some-clause-later : goal.returns-in-Some-clause-later
returns-in-Some-clause-later c =
    OnFalse_from c.is_earlier.result _
    (λ is. comes_later c.args.event.now c.args.rest.now.entries (c.in-Some.least.now, c.in-Some.field-0-1.now) c.in-Some.ensures.first (sym c.is_earlier.ensures ∙ is))
