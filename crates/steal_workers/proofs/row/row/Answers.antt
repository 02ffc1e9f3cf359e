use Rattle.std.proofs.Common.{◌≡◌, ℕ, ◌+◌, ◌<◌, ◌++◌, [], ◌∷◌, length, get_or, Vec, refl, sym, subst, arith}
use Rattle.std.specs.declared.alloc.Global.{Global}
use Rattle.steal_workers.specs.declared.share.Share.{Share}
use Rattle.steal_workers.specs.inside.Columns.{IsRow}
use Rattle.steal_workers.proofs.RowSteps.{columns_after, heights_after, row_more}
use Rattle.steal_workers.proofs.row.row.Goals as goal

pub loop-deque-preserved : goal.loop-deque-preserved
loop-deque-preserved g c =
    let T = g.row.T.Denot in
    let inv = c.loop-deque.invariant in
    let n = length c.args.columns.now in
    let d = c.loop-deque.deque in
    let decks = c.args._plan.now.value.items in
    let e = c.index-columns-deque.result in
    let old : Vec (Share T) Global = get_or c.loop-deque.columns d e in
    let popped : old.items ≡ c.pop.new.self.items ++ c.in-Some.share ∷ [] = c.in-Some.ensures.items in
    let within : d < length c.loop-deque.columns = (let k = inv.columns.count in omega arith) in
    let height : length old.items + c.args.place ≡ n = (inv.height d e within).1 (omega arith) in
    record {
      columns = columns_after decks n c.loop-deque.columns d old c.pop.new.self c.in-Some.share e inv.columns (omega arith) refl popped;
      height = heights_after n d c.args.place c.loop-deque.columns old c.pop.new.self c.in-Some.share popped height inv.height;
      row = subst (IsRow decks n (d + 1) c.args.place) (sym c.push_reserved.ensures.items)
          (row_more decks n d c.args.place c.loop-deque.shares.items c.loop-deque.columns old c.pop.new.self c.in-Some.share e inv.columns (omega arith) refl popped height inv.row);
      room = (let r = inv.room in let p = c.push_reserved.ensures.capacity in omega arith);
    }

pub returns-clause-columns : goal.returns-clause-columns
returns-clause-columns g c = c.loop-deque.invariant.columns

pub returns-clause-height : goal.returns-clause-height
returns-clause-height g c = λ d column w.
    let count = c.loop-deque.invariant.columns.count in
    let t = c.loop-deque-test.false in
    (c.loop-deque.invariant.height d column w).0 (omega arith)

pub returns-clause-row : goal.returns-clause-row
returns-clause-row g c =
    let n = length c.args.columns.now in
    subst (λ (m : ℕ). IsRow c.args._plan.now.value.items n m c.args.place c.loop-deque.shares.items)
    (let t = c.loop-deque-test.false in let e = c.loop-deque.auto.deque-end in omega arith) c.loop-deque.invariant.row
