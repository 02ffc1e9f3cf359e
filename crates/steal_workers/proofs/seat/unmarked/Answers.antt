use Rattle.std.proofs.Common.{false, sym, ap, ◌∙◌, below_more}
use Rattle.std.proofs.lemmas.List.{get_or-map}
use Rattle.steal_workers.specs.inside.Shares.{is_marked}
use Rattle.steal_workers.proofs.seat.unmarked.Goals as goal

pub loop-deque-preserved : goal.loop-deque-preserved
loop-deque-preserved g c =
    below_more _ _ c.loop-deque.invariant
    (get_or-map is_marked c.args.shares.now c.loop-deque.deque c.index-shares-deque.result false c.loop-deque-test.true
    ∙ ap is_marked (sym c.index-shares-deque.is) ∙ c.if-not-share.false)
