use Rattle.std.proofs.Common.{ℕ, ◌+◌, ◌/◌, subst}
use Rattle.steal_workers.specs.inside.Layouts.{AreFresh}
use Rattle.steal_workers.proofs.dealing.reserved.Goals as goal

pub returns : goal.returns
returns g c = record {
  decks = subst (λ (tasks : ℕ). AreFresh c.args.seats (tasks / c.args.seats + 1 + c.args.seats) c.in_ok-new_decks.field-0.items) c.len.ensures c.in_ok-new_decks.ensures;
  columns = (c.in_ok-with_capacity.ensures.items, c.in_ok-with_capacity.ensures.capacity);
  rows = c.in_ok-new_rows.ensures;
  seats = (c.in_ok-with_capacity-2.ensures.items, c.in_ok-with_capacity-2.ensures.capacity);
}
