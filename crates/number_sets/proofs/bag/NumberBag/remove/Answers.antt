use Rattle.std.proofs.Common.{◌==◌}
use Rattle.std.specs.HashMap.{get}
use Rattle.number_sets.specs.Sets.{has}
use Rattle.number_sets.proofs.Counted.{lessened, removed}
use Rattle.number_sets.proofs.bag.NumberBag.remove.Goals as goal

pub returns-then-count-gt1 : goal.returns-then-count-gt1
returns-then-count-gt1 c = λ times h.
    lessened (get (λ k q. k == q) c.args.self.now.counts) (get (λ k q. k == q) c.insert.new.self) (has c.args.self.now.members) times c.args.number c.count-count.result h c.count-count.ensures
    c.if-count-gt1.true
    (λ q. c.in_ok-insert.ensures.updates.0 q)

pub returns : goal.returns
returns c = λ times h.
    removed (get (λ k q. k == q) c.args.self.now.counts) (get (λ k q. k == q) c.remove.new.self) (has c.args.self.now.members) (has c.remove-2.new.self) times c.args.number c.count-count.result h c.count-count.ensures
    c.if-count-gt1.false
    c.remove.ensures.updates.0
    c.remove-2.ensures
