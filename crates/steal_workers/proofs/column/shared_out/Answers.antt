use Rattle.std.proofs.Common.{◌≡◌, ◌+◌, ◌∷◌, ◌==◌, ℕ, true, false, [], All, List, length, get_or, vec_len, sym, refl, ap, ◌∙◌, subst, arith}
use Rattle.std.proofs.lemmas.List.Elements.{All-head, All-tail}
use Rattle.std.specs.Vec.Iter.{into_iter_items}
use Rattle.std.specs.declared.alloc.Global.{Global}
use Rattle.atomic_blocks.specs.Lent.{RowsId}
use Rattle.crossbeam_deque.specs.Handles.{worker_deque, worker_view, IsPassOf}
use Rattle.list_weights.specs.Places.{EachAt}
use Rattle.steal_workers.specs.declared.hand.Hand.{Hand}
use Rattle.steal_workers.specs.declared.share.Share.{Share}
use Rattle.steal_workers.specs.OneDeque.{hand, less_one_share, one_share}
use Rattle.steal_workers.specs.inside.Handles.{is_own}
use Rattle.steal_workers.specs.inside.Decks.{IsThiefOf}
use Rattle.steal_workers.specs.inside.Columns.{IsFresh}
use Rattle.list_weights.proofs.Places.{EachAt_push}
use Rattle.steal_workers.proofs.Steps.{forks}
use Rattle.steal_workers.proofs.ColumnSteps.{fresh_other, fresh_own, own_last}
use Rattle.steal_workers.proofs.column.shared_out.Goals as goal

pub another-claim-requires : goal.another-claim-requires
another-claim-requires g c =
    let view = c.loop-thief.invariant.view in
    let share = ap (λ (v : Hand g.row.T.Denot). v.share) view in
    forks _ _ (ap (λ (v : Hand g.row.T.Denot). v.deals) view) (ap (λ (v : Hand g.row.T.Denot). v.taken) view) (omega arith)

pub loop-thief-preserved : goal.loop-thief-preserved
loop-thief-preserved g c =
    let T = g.row.T.Denot in
    let inv = c.loop-thief.invariant in
    let rest = into_iter_items c.next.new.self in
    let next = c.in-Some.ensures.steps.0 in
    let long = ap length next in
    let deque = worker_deque c.args.deque in
    let queue = (worker_view c.args.deque).dealt in
    let thieves : All (IsThiefOf deque) (c.in-Some.thief ∷ rest) = subst (All (IsThiefOf deque)) next inv.thieves in
    let claim : IsPassOf deque c.another-claim.result = subst (λ (d : RowsId × Global). IsPassOf d c.another-claim.result) inv.same c.another-claim.ensures.same.2 in
    let view = c.another-claim.ensures.rule.1 ∙ ap one_share inv.view in
    record {
      fifo = c.another-claim.ensures.same.0.1 ∙ inv.fifo;
      same = c.another-claim.ensures.same.0.0 ∙ inv.same;
      view = c.another-claim.ensures.rule.0 ∙ ap less_one_share inv.view
          ∙ ap (λ (n : ℕ). hand true n queue []) (omega arith);
      thieves = All-tail (IsThiefOf deque) c.in-Some.thief rest thieves;
      count = (let n = inv.count in let p = c.push_reserved.ensures.len in omega arith);
      room = (let r = inv.room in let p = c.push_reserved.ensures.capacity in omega arith);
      each = subst (EachAt (λ (i : ℕ) (share : Share T). IsFresh deque queue share × (is_own share.handle ≡ false))) (sym c.push_reserved.ensures.items)
          (EachAt_push (λ (i : ℕ) (share : Share T). IsFresh deque queue share × (is_own share.handle ≡ false)) c.loop-thief.shares.items _ inv.each
          (fresh_other deque queue c.in-Some.thief c.another-claim.result (All-head (IsThiefOf deque) c.in-Some.thief rest thieves) claim view, refl));
    }

pub returns-clause-each : goal.returns-clause-each
returns-clause-each g c =
    let T = g.row.T.Denot in
    let inv = c.loop-thief.invariant in
    let deque = worker_deque c.args.deque in
    let queue = (worker_view c.args.deque).dealt in
    let m = vec_len c.args.thieves in
    let none : length (into_iter_items c.loop-thief.thief-iterator) ≡ 0 = (let e = c.in-None.ensures.steps.0 in omega (arith, c.loop-thief.thief-iterator.rest.ok.0)) in
    let view = inv.view ∙ ap (λ (n : ℕ). hand true (n + 1) queue []) none in
    λ i e within.
    subst (λ (l : List (Share T)). IsFresh deque queue (get_or l i e) × (is_own (get_or l i e).handle ≡ (i == m))) (sym c.push_reserved-2.ensures.items)
    (own_last (IsFresh deque queue) c.loop-thief.shares.items _ m (let n = inv.count in omega (arith, c.loop-thief.shares.ok.0)) inv.each
    (fresh_own deque queue c.loop-thief.deque inv.same inv.fifo view) refl i e within)
