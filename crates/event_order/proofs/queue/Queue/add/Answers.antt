use Rattle.std.proofs.Common.{sym, ◌∙◌}
use Rattle.std.proofs.lemmas.Result.{on_ok_weaker}
use Rattle.event_order.proofs.EventsLemmas.{put_first}
use Rattle.event_order.proofs.queue.Queue.add.Goals as goal

pub returns-then-is_first-clause-ok : goal.returns-then-is_first-clause-ok
returns-then-is_first-clause-ok c =
    on_ok_weaker c.lead.result (λ is. is ∙ sym (put_first c.args.event c.args.self.now c.if-is_first.ensures.first)) c.lead.ensures.ok
