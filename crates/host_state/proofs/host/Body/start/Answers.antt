use Rattle.std.proofs.Common.{◌∙◌, sym, Option, subst}
use Rattle.std.proofs.lemmas.Result.{on_ok_weaker}
use Rattle.guest_process.specs.declared.start.Started.{Started}
use Rattle.host_state.specs.Fire.{begins, begins_so}
use Rattle.host_state.specs.StandsFor.{Does}
use Rattle.host_state.proofs.Firings.{started_so, not_started}
use Rattle.host_state.proofs.host.Body.start.Goals as goal

pub returns-then-not-is_not_started : goal.returns-then-not-is_not_started
returns-then-not-is_not_started c =
    not_started c.args.net.now c.args.process c.args.self.now (sym c.is_not_started.ensures ∙ c.if-not-is_not_started.true)

pub returns-in-Some : goal.returns-in-Some
returns-in-Some c =
    on_ok_weaker c.begin.result
    (λ (d : Does (begins_so c.args.net.now c.args.process c.in-Some.started) c.args.self.now c.begin.new.self).
    started_so c.args.net.now c.args.process c.args.self.now c.begin.new.self c.in_ok-found.found (sym c.is_not_started.ensures ∙ c.if-not-is_not_started.false) c.in_ok-found.ensures
    (subst (λ (x : Option Started). Does (begins c.args.net.now c.args.process x) c.args.self.now c.begin.new.self) (sym c.in-Some.is) d))
    c.begin.ensures

pub returns-in-None : goal.returns-in-None
returns-in-None c =
    started_so c.args.net.now c.args.process c.args.self.now c.args.self.now c.in_ok-found.found (sym c.is_not_started.ensures ∙ c.if-not-is_not_started.false) c.in_ok-found.ensures
    (subst (λ (x : Option Started). Does (begins c.args.net.now c.args.process x) c.args.self.now c.args.self.now) (sym c.in-None.is) (λ h s. s))
