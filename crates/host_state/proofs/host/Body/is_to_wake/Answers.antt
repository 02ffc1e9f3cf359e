use Rattle.std.proofs.Common.{◌≡◌, ◌∙◌, sym, refl, Bool, false, not, ap, subst}
use Rattle.std.specs.Prelude.{◌&&◌, Option, slice_get}
use Rattle.file_calls.specs.declared.task.Why.{Why}
use Rattle.host_state.specs.Fire.{would_answer, kept_in}
use Rattle.host_state.proofs.host.Body.is_to_wake.Goals as goal

pub returns-then-running : goal.returns-then-running
returns-then-running c = λ h s.
    subst (λ (b : Bool). false ≡ (not b && would_answer c.args.net.now c.args.process (kept_in (slice_get c.args.self.now.parts.tasks.items c.args.process)) h)) (sym c.if-running.true) refl

pub returns : goal.returns
returns c = λ h s.
    subst (λ (b : Bool). c.would_answer.result ≡ (not b && would_answer c.args.net.now c.args.process (kept_in (slice_get c.args.self.now.parts.tasks.items c.args.process)) h)) (sym c.if-running.false)
    (c.would_answer.ensures h s ∙ ap (λ (x : Option Why). would_answer c.args.net.now c.args.process x h) c.kept-why.ensures)
