use Rattle.std.proofs.Common.{◌==◌}
use Rattle.std.specs.HashMap.{get}
use Rattle.number_sets.specs.Sets.{has}
use Rattle.number_sets.proofs.Counted.{added}
use Rattle.number_sets.proofs.bag.NumberBag.add.Goals as goal

pub returns : goal.returns
returns c = λ times h.
    added (get (λ k q. k == q) c.args.self.now.counts) (get (λ k q. k == q) c.insert.new.self) (has c.args.self.now.members) (has c.insert-2.new.self) times c.args.number c.count-count.result h c.count-count.ensures
    (λ q. c.in_ok-insert.ensures.updates.0 q)
    (λ n. c.in_ok-insert-2.ensures n)
