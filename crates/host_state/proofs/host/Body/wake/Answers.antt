use Rattle.std.proofs.Common.{◌∙◌, sym, refl, true, false}
use Rattle.std.proofs.lemmas.Result.{on_ok_weaker}
use Rattle.host_state.proofs.Firings.{wakes_so, none_wakes}
use Rattle.host_state.proofs.host.Body.wake.Goals as goal

pub returns-in-None : goal.returns-in-None
returns-in-None c = none_wakes c.args.net.now c.args.process c.args.self.now c.in-None.ensures

pub returns-then-not-is_to_wake : goal.returns-then-not-is_to_wake
returns-then-not-is_to_wake c =
    wakes_so c.args.net.now c.args.process c.args.self.now c.args.self.now c.in-Some.running _ false c.in-Some.ensures refl
    (λ h s. sym (c.is_to_wake.ensures h s) ∙ c.if-not-is_to_wake.true) (λ h s. s)

pub returns : goal.returns
returns c =
    on_ok_weaker c.go_later.result
    (wakes_so c.args.net.now c.args.process c.args.self.now c.go_later.new.self c.in-Some.running _ true c.in-Some.ensures refl
    (λ h s. sym (c.is_to_wake.ensures h s) ∙ c.if-not-is_to_wake.false))
    c.go_later.ensures
