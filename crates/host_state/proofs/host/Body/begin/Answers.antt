use Rattle.std.proofs.Common.{◌≡◌, ◌∙◌, sym, length, nat_lt, true, false}
use Rattle.std.proofs.lemmas.Result.{on_ok_weaker}
use Rattle.host_state.proofs.Firings.{begun, not_begun}
use Rattle.host_state.proofs.host.Body.begin.Goals as goal

pub returns-then-not-has_task : goal.returns-then-not-has_task
returns-then-not-has_task c =
    let there : nat_lt c.args.process (length c.args.self.now.parts.tasks.items) ≡ false = sym c.has_task.ensures.is ∙ c.if-not-has_task.true in
    not_begun c.args.net.now c.args.process c.args.started c.args.self.now there

pub returns : goal.returns
returns c =
    let there : nat_lt c.args.process (length c.args.self.now.parts.tasks.items) ≡ true = sym c.has_task.ensures.is ∙ c.if-not-has_task.false in
    on_ok_weaker c.run.result
    (begun c.args.net.now c.args.process c.args.started c.args.self.now c.run.new.self c.start_task.new.parts there c.in_ok-start_task.ensures)
    c.run.ensures
