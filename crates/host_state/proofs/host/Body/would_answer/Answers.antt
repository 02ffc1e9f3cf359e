use Rattle.std.proofs.Common.{◌≡◌, ◌∙◌, sym, refl, ap, length, nat_lt, true, false, subst}
use Rattle.file_calls.specs.declared.known.Known.{Known}
use Rattle.file_calls.specs.declared.task.Why.{Why}
use Rattle.host_calls.specs.Calls.{answers}
use Rattle.host_calls.specs.Parts.{PartsRecord, PartsStand}
use Rattle.host_link.specs.Net.{Net}
use Rattle.std.proofs.Common.{Option}
use Rattle.host_state.specs.Fire.{would_answer}
use Rattle.host_state.proofs.Firings.{would_so, not_would}
use Rattle.host_state.proofs.host.Body.would_answer.Goals as goal

pub returns-in-None : goal.returns-in-None
unfolding would_answer
returns-in-None c = λ h s. subst (λ (x : Option Why). false ≡ would_answer c.args.net.now c.args.process x h) (sym c.in-None.is) refl

pub returns-then-not-has_task : goal.returns-then-not-has_task
returns-then-not-has_task c = λ h s.
    let there : nat_lt c.args.process (length c.args.self.now.parts.tasks.items) ≡ false = sym c.has_task.ensures.is ∙ c.if-not-has_task.true in
    subst (λ (x : Option Why). false ≡ would_answer c.args.net.now c.args.process x h) (sym c.in-Some.is)
    (not_would c.args.net.now c.args.process c.args.self.now c.in-Some.why there h s)

pub returns : goal.returns
returns c = λ h s.
    let there : nat_lt c.args.process (length c.args.self.now.parts.tasks.items) ≡ true = sym c.has_task.ensures.is ∙ c.if-not-has_task.false in
    let known : c.net.inside.known ≡ c.args.net.now.known = ap (λ (n : Net). n.known) c.net.view_is in
    let P : Known → Type 0 = λ k. (q : PartsRecord) → PartsStand c.args.self.now.parts q → c.answers_now.result ≡ answers k c.now-now.result c.args.process c.in-Some.why q in
    subst (λ (x : Option Why). c.answers_now.result ≡ would_answer c.args.net.now c.args.process x h) (sym c.in-Some.is)
    (would_so c.args.net.now c.args.process c.args.self.now c.in-Some.why c.now-now.result c.answers_now.result there c.now-now.ensures.time (subst P known c.answers_now.ensures) h s)
