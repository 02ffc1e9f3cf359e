use Rattle.std.proofs.Common.{◌∙◌}
use Rattle.std.specs.Mem.Slots.{slots_items}
use Rattle.host_inbox.specs.Drains.{all_entries}
use Rattle.host_inbox.proofs.KeptSteps.{keeps_all}
use Rattle.host_inbox.proofs.RowSteps.{drains}
use Rattle.host_inbox.proofs.boards.Boards.drained.Goals as goal

pub returns-clause-drained : goal.returns-clause-drained
returns-clause-drained g c =
    drains c.args.self.hosts (all_entries c.args.carriers.items) (slots_items c.closed.result.slots) c.drained_rows.result.items
    c.closed.ensures.laid (c.drained_rows.ensures.count ∙ c.requires.empty.0) c.drained_rows.ensures.each

pub returns-clause-kept : goal.returns-clause-kept
returns-clause-kept g c = keeps_all c.args.self.hosts (all_entries c.args.carriers.items) c.drained_rows.result.items (returns-clause-drained g c)
