use Rattle.std.proofs.Common.{◌≡◌, ◌∙◌, sym, length, nat_lt, true, false}
use Rattle.std.proofs.lemmas.Result.{on_ok_weaker}
use Rattle.host_state.proofs.Slices.{closed, not_closed}
use Rattle.host_state.proofs.host.Body.close.Goals as goal

pub returns-then-not-has_task : goal.returns-then-not-has_task
returns-then-not-has_task c =
    let there : nat_lt c.args.process (length c.args.self.now.parts.tasks.items) ≡ false = sym c.has_task.ensures.is ∙ c.if-not-has_task.true in
    not_closed c.args.net.now c.args.process c.args.self.now there

pub returns : goal.returns
returns c =
    let there : nat_lt c.args.process (length c.args.self.now.parts.tasks.items) ≡ true = sym c.has_task.ensures.is ∙ c.if-not-has_task.false in
    on_ok_weaker c.do_wanted.result
    (closed c.args.net.now c.args.process c.args.self.now c.do_wanted.new.self c.now-now.result c.close_all.new.parts there c.now-now.ensures.time c.in_ok-close_all.ensures)
    c.do_wanted.ensures
