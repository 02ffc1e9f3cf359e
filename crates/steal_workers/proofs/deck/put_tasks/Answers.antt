use Rattle.std.proofs.Common.{◌≡◌, ℕ, ◌+◌, ◌/◌, ◌++◌, ◌%◌, [], length, get_or, vec_len, sym, refl, ap, subst, length-append, arith}
use Rattle.std.specs.Vec.Iter.{into_iter_items}
use Rattle.std.proofs.Math.Nat.{mod-lt}
use Rattle.steal_workers.specs.declared.deck.Deck.{Deck}
use Rattle.steal_workers.specs.inside.Decks.{AreFilling}
use Rattle.steal_workers.proofs.DeckSteps.{turn, less_done, done_less, filling_next, taken_next}
use Rattle.steal_workers.proofs.deck.put_tasks.Goals as goal

pub loop-task-init : goal.loop-task-init
loop-task-init g c = record {
  filling = c.requires.fresh;
  count = refl;
  so_far = ([], refl, sym c.into_iter-task-iterator.ensures.into_iter_gives.0);
}

pub bounds-decks-number : goal.bounds-decks-number
bounds-decks-number g c =
    let below = mod-lt c.loop-task.number c.requires.some in
    let count = c.loop-task.invariant.filling.count in
    omega arith

pub put-requires-clause-room : goal.put-requires-clause-room
put-requires-clause-room g c =
    let n = length c.args.decks.now in
    let k = c.loop-task.number in
    let so_far = c.loop-task.invariant.so_far in
    let f = c.loop-task.invariant.filling.each (k % n) c.index-decks-number.result (let l = mod-lt k c.requires.some in let m = c.loop-task.invariant.filling.count in omega arith) in
    let here = turn _ n k f.level in
    let less = done_less c.args.tasks.items so_far.0 (into_iter_items c.loop-task.task-iterator) (into_iter_items c.next.new.self) c.in-Some.task so_far.2 c.in-Some.ensures.steps.0 in
    let done = less_done n k (vec_len c.args.tasks) c.requires.some (let count = so_far.1 in omega (arith, c.args.tasks.ok.0)) in
    let capacity = f.capacity in
    omega arith

pub put-requires-clause-deals : goal.put-requires-clause-deals
put-requires-clause-deals g c =
    let n = length c.args.decks.now in
    (c.loop-task.invariant.filling.each (c.loop-task.number % n) c.index-decks-number.result (let l = mod-lt c.loop-task.number c.requires.some in let m = c.loop-task.invariant.filling.count in omega arith)).sound.deals

pub put-requires-clause-share : goal.put-requires-clause-share
put-requires-clause-share g c =
    let n = length c.args.decks.now in
    (c.loop-task.invariant.filling.each (c.loop-task.number % n) c.index-decks-number.result (let l = mod-lt c.loop-task.number c.requires.some in let m = c.loop-task.invariant.filling.count in omega arith)).sound.share

pub overflow_add-number : goal.overflow_add-number
overflow_add-number g c =
    let so_far = c.loop-task.invariant.so_far in
    let less = done_less c.args.tasks.items so_far.0 (into_iter_items c.loop-task.task-iterator) (into_iter_items c.next.new.self) c.in-Some.task so_far.2 c.in-Some.ensures.steps.0 in
    let count = so_far.1 in
    let few = c.requires.few in
    omega (arith, c.args.tasks.ok.0)

pub loop-task-preserved : goal.loop-task-preserved
loop-task-preserved g c =
    let n = length c.args.decks.now in
    let k = c.loop-task.number in
    let so_far = c.loop-task.invariant.so_far in
    let next = taken_next c.args.tasks.items so_far.0 (into_iter_items c.loop-task.task-iterator) (into_iter_items c.next.new.self) c.in-Some.task k so_far.1 so_far.2 c.in-Some.ensures.steps.0 in
    let old : Deck g.row.T.Denot = get_or c.loop-task.decks (k % n) c.index-decks-number.result in
    let new : Deck g.row.T.Denot = record { deque = c.put.new.deque; thieves = old.thieves; shares = old.shares } in
    let put = c.put.ensures in
    record {
      filling = filling_next n (vec_len c.args.tasks / n + 1 + n) k c.args.tasks.items c.loop-task.decks c.index-decks-number.result new c.in-Some.task c.requires.some c.loop-task.invariant.filling
          (record { fifo = put.same.0; same = put.same.1; capacity = put.capacity; index = put.index; view = put.view; thieves = refl; shares = refl }) next.0;
      count = refl;
      so_far = next.1;
    }

pub returns : goal.returns
returns g c =
    let n = length c.args.decks.now in
    let inv = c.loop-task.invariant in
    let rest = into_iter_items c.loop-task.task-iterator in
    let none : length rest ≡ 0 = (let e = c.in-None.ensures.steps.0 in omega (arith, c.loop-task.task-iterator.rest.ok.0)) in
    let long : length c.args.tasks.items ≡ length (inv.so_far.0 ++ rest) = ap length inv.so_far.2 in
    let all : c.loop-task.number ≡ vec_len c.args.tasks = (let count = inv.so_far.1 in omega (arith, length-append inv.so_far.0 rest, c.args.tasks.ok.0)) in
    subst (λ (k : ℕ). AreFilling n (vec_len c.args.tasks / n + 1 + n) k c.args.tasks.items c.loop-task.decks) all inv.filling
