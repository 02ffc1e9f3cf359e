use Rattle.std.proofs.Common.{ap, ◌∙◌}
use Rattle.event_order.specs.Events.{events_of}
use Rattle.event_order.proofs.EventsLemmas.{events_of_insert_entry}
use Rattle.event_order.proofs.behind.add_behind.Goals as goal

pub returns-in-Ok-clause-ok : goal.returns-in-Ok-clause-ok
returns-in-Ok-clause-ok c =
    ap events_of c.in-Ok.ensures.entries ∙ events_of_insert_entry c.args.event.key c.args.event.what c.args.rest.now.entries c.requires
