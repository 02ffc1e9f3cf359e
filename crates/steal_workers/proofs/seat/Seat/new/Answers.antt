use Rattle.std.proofs.Common.{ap, ◌∙◌}
use Rattle.list_weights.specs.Weights.{weigh}
use Rattle.steal_workers.proofs.UnusedLemmas.{unused_shares, unused_own, unused_numbers}
use Rattle.steal_workers.proofs.seat.Seat.new.Goals as goal

pub invariant_of-result : goal.invariant_of-result
invariant_of-result g c = record {
  shares = unused_shares c.args.place c.args.shares.items c.requires.shares;
  place = c.requires.place.0;
  own = unused_own c.args.place c.args.shares.items c.requires.shares;
  dealt = c.requires.dealt;
  count = c.requires.count;
  numbers = λ h. ap (weigh h) c.new.ensures ∙ unused_numbers c.args.place c.args.shares.items c.requires.shares h;
  few = c.requires.place.1;
}
