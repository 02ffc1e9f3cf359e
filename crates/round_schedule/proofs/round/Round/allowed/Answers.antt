use Rattle.std.proofs.Common.{◌≡◌, sym, ap, ◌∙◌}
use Rattle.world_order.specs.declared.step.Step.{Step}
use Rattle.round_schedule.proofs.Guarding.{may_step, unclosed_allowed, closed_allowed}
use Rattle.round_schedule.proofs.round.Round.allowed.Goals as goal

pub returns-then-self : goal.returns-then-self
returns-then-self c = closed_allowed c.args.self.now c.args.step.now c.if-self.true

pub returns-in-Take : goal.returns-in-Take
returns-in-Take c = λ net w s stands.
    c.may_take.ensures ∙ ap (λ (step : Step). may_step step c.args.self.now) (sym c.in-Take.is) ∙ unclosed_allowed c.args.self.now c.args.step.now c.if-self.false net w s stands

pub returns-in-Fire : goal.returns-in-Fire
returns-in-Fire c = λ net w s stands.
    c.may_fire.ensures ∙ ap (λ (step : Step). may_step step c.args.self.now) (sym c.in-Fire.is) ∙ unclosed_allowed c.args.self.now c.args.step.now c.if-self.false net w s stands

pub returns-in-Put : goal.returns-in-Put
returns-in-Put c = λ net w s stands.
    c.may_put.ensures ∙ ap (λ (step : Step). may_step step c.args.self.now) (sym c.in-Put.is) ∙ unclosed_allowed c.args.self.now c.args.step.now c.if-self.false net w s stands

pub returns-in-Back : goal.returns-in-Back
returns-in-Back c = λ net w s stands.
    c.may_give_back.ensures ∙ ap (λ (step : Step). may_step step c.args.self.now) (sym c.in-Back.is) ∙ unclosed_allowed c.args.self.now c.args.step.now c.if-self.false net w s stands

pub returns-in-Close : goal.returns-in-Close
returns-in-Close c = λ net w s stands.
    c.may_close.ensures ∙ ap (λ (step : Step). may_step step c.args.self.now) (sym c.in-Close.is) ∙ unclosed_allowed c.args.self.now c.args.step.now c.if-self.false net w s stands
