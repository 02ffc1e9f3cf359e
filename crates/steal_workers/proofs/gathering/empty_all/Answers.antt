use Rattle.std.proofs.Common.{ℕ, subst, arith}
use Rattle.steal_workers.specs.inside.Emptying.{IsEmptying}
use Rattle.steal_workers.proofs.gathering.empty_all.Goals as goal

pub empty-requires-clause-emptying : goal.empty-requires-clause-emptying
empty-requires-clause-emptying g c =
    subst (λ (m : ℕ). IsEmptying c.args.seats.now.value.items m c.loop-done.stacks c.loop-done.left.items) (let t = c.loop-done-test.true in omega arith) c.loop-done.invariant.emptying

pub empty-requires-clause-dealt : goal.empty-requires-clause-dealt
empty-requires-clause-dealt g c = c.requires.dealt (let t = c.loop-done-test.true in omega arith)

pub loop-done-preserved : goal.loop-done-preserved
loop-done-preserved g c =
    let inv = c.loop-done.invariant in
    let same = c.empty.ensures.column.1 in
    let kept = c.empty.ensures.room in
    record {
      emptying = subst (λ (m : ℕ). IsEmptying c.args.seats.now.value.items m c.empty.new.stacks c.empty.new.left.items) (let t = c.loop-done-test.true in omega arith) c.empty.ensures.emptying;
      column = c.empty.ensures.column.0;
      shares = (let s = inv.shares in omega arith);
      room = (let r = inv.room in omega arith);
    }

pub returns : goal.returns
returns g c =
    subst (λ (m : ℕ). IsEmptying c.args.seats.now.value.items m c.loop-done.stacks c.loop-done.left.items) (let t = c.loop-done-test.false in omega arith) c.loop-done.invariant.emptying
