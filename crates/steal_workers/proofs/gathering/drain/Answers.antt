use Rattle.std.proofs.Common.{[], refl, sym, ap, ◌∙◌, subst, append-nil, arith}
use Rattle.std.proofs.lemmas.List.Elements.{All-nil}
use Rattle.crossbeam_deque.specs.Handles.{worker_view}
use Rattle.steal_workers.specs.declared.hand.Hand.{Hand}
use Rattle.steal_workers.specs.inside.Items.{marks}
use Rattle.steal_workers.proofs.Steps.{takes_back, finds_all}
use Rattle.steal_workers.proofs.BackSteps.{More, since_take, more_taken, room_for, nearer}
use Rattle.steal_workers.proofs.gathering.drain.Goals as goal

pub loop-item-init : goal.loop-item-init
loop-item-init g c = record {
  fifo = c.requires.fifo;
  since = refl;
  capacity = refl;
  more = ([], sym (append-nil c.args.left.now.items), (λ h. omega arith), All-nil _, λ some_mark. (some_mark, refl));
}

pub pop_as-requires-clause-fifo : goal.pop_as-requires-clause-fifo
pop_as-requires-clause-fifo g c =
    let since = c.loop-item.invariant.since in
    let share = ap (λ (v : Hand g.row.T.Denot). v.share) since in
    λ _. takes_back _ _ (ap (λ (v : Hand g.row.T.Denot). v.deals) since ∙ c.requires.deals)
    (share ∙ c.requires.share ∙ sym (ap (λ (v : Hand g.row.T.Denot). marks v.dealt) since))
    (let s = c.requires.some in omega arith)

pub pop_as-requires-clause-empty : goal.pop_as-requires-clause-empty
pop_as-requires-clause-empty g c =
    let since = c.loop-item.invariant.since in
    finds_all _ _ (ap (λ (v : Hand g.row.T.Denot). v.deals) since ∙ c.requires.deals)
    (ap (λ (v : Hand g.row.T.Denot). v.share) since ∙ c.requires.share ∙ sym (ap (λ (v : Hand g.row.T.Denot). marks v.dealt) since))

pub keep-requires : goal.keep-requires
keep-requires g c =
    let inv = c.loop-item.invariant in
    let room = room_for (worker_view c.args.deque) (worker_view c.loop-item.deque) (worker_view c.pop_as.new.self) c.in-Some.item c.args.left.now.items c.loop-item.left.items inv.more inv.since c.in-Some.ensures.rule in
    let capacity = inv.capacity in
    let asked = c.requires.room in
    omega (arith, c.loop-item.left.ok.0, c.args.left.now.ok.0)

pub loop-item-smaller : goal.loop-item-smaller
loop-item-smaller g c =
    let n = nearer _ _ c.in-Some.item c.in-Some.ensures.rule in
    let a = n.0 in let b = n.1 in let d = n.2 in omega arith

pub loop-item-preserved : goal.loop-item-preserved
loop-item-preserved g c =
    let inv = c.loop-item.invariant in
    record {
      fifo = c.pop_as.ensures.same.0.1 ∙ inv.fifo;
      since = since_take (worker_view c.args.deque) (worker_view c.loop-item.deque) (worker_view c.pop_as.new.self) c.in-Some.item inv.since c.in-Some.ensures.rule.0;
      capacity = c.keep.ensures.capacity ∙ inv.capacity;
      more = subst (More (worker_view c.args.deque) (worker_view c.pop_as.new.self) c.args.left.now.items) (sym c.keep.ensures.items)
          (more_taken (worker_view c.args.deque) (worker_view c.loop-item.deque) (worker_view c.pop_as.new.self) c.in-Some.item c.args.left.now.items c.loop-item.left.items inv.more inv.since c.requires.last c.in-Some.ensures.rule);
    }
