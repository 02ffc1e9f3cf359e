use Rattle.std.proofs.Common.{List, [], ◌∷◌, drop, get_or, subst, ◌+◌}
use Rattle.world_order.specs.declared.step.Step.{Step}
use Rattle.world_order.specs.declared.step.Step.TheVariants.{Take}
use Rattle.round_schedule.proofs.Going.{IsOnWay, may_next, on_way_start, on_way_next, on_way_end, steps_left, no_steps_left}
use Rattle.round_schedule.proofs.schedule.law_schedule.Goals as goal

abbrev none : Step
none = Take 0 (record { index = 0 })

pub apply-requires : goal.apply-requires
apply-requires c =
    may_next c.args.net.now c.args.steps.now c.args.round c.loop-step.round c.loop-step.round (get_or c.args.steps.now c.loop-step.step-index none) (drop (c.loop-step.step-index + 1) c.args.steps.now)
    (subst (λ (l : List Step). IsOnWay c.args.net.now c.args.steps.now l c.args.round c.loop-step.round) (steps_left c.args.steps.now c.loop-step.step-index none c.loop-step-test.true) c.loop-step.invariant)

pub loop-step-preserved : goal.loop-step-preserved
loop-step-preserved c =
    on_way_next c.args.net.now c.args.steps.now c.args.round c.loop-step.round c.apply.new.self (get_or c.args.steps.now c.loop-step.step-index none) (drop (c.loop-step.step-index + 1) c.args.steps.now)
    (subst (λ (l : List Step). IsOnWay c.args.net.now c.args.steps.now l c.args.round c.loop-step.round) (steps_left c.args.steps.now c.loop-step.step-index none c.loop-step-test.true) c.loop-step.invariant)
    c.in_ok-apply.ensures.goes c.in_ok-apply.ensures.window

pub returns-clause-goes : goal.returns-clause-goes
returns-clause-goes c =
    on_way_end c.args.net.now c.args.steps.now c.args.round c.loop-step.round
    (subst (λ (l : List Step). IsOnWay c.args.net.now c.args.steps.now l c.args.round c.loop-step.round) (no_steps_left c.args.steps.now c.loop-step.step-index c.loop-step-test.false) c.loop-step.invariant)
