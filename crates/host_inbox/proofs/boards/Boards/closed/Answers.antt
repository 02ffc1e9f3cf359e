use Rattle.std.proofs.Common.{sym, ap, ◌∙◌}
use Rattle.std.specs.Mem.Slots.{slots_items}
use Rattle.host_inbox.specs.CarrierViews.{BoardsView}
use Rattle.host_inbox.specs.Drains.{all_entries}
use Rattle.host_inbox.proofs.CloseSteps.{closes_of, known_of}
use Rattle.host_inbox.proofs.boards.Boards.closed.Goals as goal

pub returns-clause-laid : goal.returns-clause-laid
returns-clause-laid g c =
    let inside = c.self.inside in
    let seat = c.joined-seat.result in
    let closed = c.close_with.result in
    closes_of inside.table.shared.key inside.size seat.id _ c.args.self.hosts seat.me.0 (all_entries c.args.carriers.items) (slots_items closed.words) (slots_items closed.slots)
    c.self.invariant.key
    (known_of seat.me _ _ c.joined-seat.ensures.knows)
    (c.args.carriers.ok.0 ∙ (c.requires.count ∙ sym (ap (λ (b : BoardsView). b.seats) c.self.view_is)))
    (sym (ap (λ (b : BoardsView). b.hosts) c.self.view_is))
    c.close_with.ensures.values.2
