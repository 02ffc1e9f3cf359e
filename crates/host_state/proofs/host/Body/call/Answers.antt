use Rattle.std.proofs.Common.{◌≡◌, ◌∙◌, sym, ap, subst, length, nat_lt, true, false}
use Rattle.file_calls.specs.declared.known.Known.{Known}
use Rattle.host_calls.specs.Calls.{call, PartsCalled}
use Rattle.host_calls.specs.Parts.{PartsRecord, PartsStand}
use Rattle.host_link.specs.Net.{Net}
use Rattle.host_state.specs.Step.{step_with}
use Rattle.host_state.proofs.Slices.{called, not_called}
use Rattle.host_state.proofs.host.Body.call.Goals as goal

pub returns-then-not-has_task : goal.returns-then-not-has_task
returns-then-not-has_task c =
    let there : nat_lt c.args.process (length c.args.self.now.parts.tasks.items) ≡ false = sym c.has_task.ensures.is ∙ c.if-not-has_task.true in
    not_called c.args.net.now c.args.process c.args.number c.args.arguments c.args.cpu.now c.args.self.now there

pub returns : goal.returns
returns c =
    let there : nat_lt c.args.process (length c.args.self.now.parts.tasks.items) ≡ true = sym c.has_task.ensures.is ∙ c.if-not-has_task.false in
    let known : c.net.inside.known ≡ c.args.net.now.known = ap (λ (n : Net). n.known) c.net.view_is in
    let P : Known → Type 0 = λ k. (q : PartsRecord) → PartsStand c.args.self.now.parts q → PartsCalled (call k c.now-now.result c.args.process c.args.number c.args.arguments q) c.in_ok-answer.answer c.do_call.new.parts in
    called c.args.net.now c.args.process c.args.number c.args.arguments c.args.cpu.now c.args.self.now c.do_wanted.new.self c.now-now.result c.in_ok-answer.answer c.do_call.new.parts
    (step_with c.next_of.result c.next_of.new.cpu) there c.now-now.ensures.time (subst P known c.in_ok-answer.ensures) c.in_ok-do_wanted.ensures c.next_of.ensures
