use Rattle.std.proofs.Common.{◌+◌, drop, get_or, sym, ◌∙◌}
use Rattle.round_schedule.proofs.Going.{steps_left, no_steps_left}
use Rattle.world_order.specs.declared.step.Step.{Step}
use Rattle.world_order.specs.declared.step.Step.TheVariants.{Take}
use Rattle.schedule_tests.proofs.Stepping.{may_step, played_next, played_end}
use Rattle.schedule_tests.proofs.playing.play.Goals as goal

abbrev none : Step
none = Take 0 (record { index = 0 })

pub apply-requires : goal.apply-requires
apply-requires c =
    may_step c.args.net.now c.loop-count.round (get_or c.args.steps.now c.loop-count.count none) (λ w s stands. sym c.if-not-allowed.false ∙ c.allowed.ensures c.args.net.now w s stands)
    c.loop-count.invariant.may

pub loop-count-preserved : goal.loop-count-preserved
loop-count-preserved c =
    played_next c.args.net.now c.loop-count.round (get_or c.args.steps.now c.loop-count.count none) (λ w s stands. sym c.if-not-allowed.false ∙ c.allowed.ensures c.args.net.now w s stands)
    c.args.steps.now (drop c.loop-count.count c.args.steps.now) (drop (c.loop-count.count + 1) c.args.steps.now) c.args.round.now c.apply.new.self
    (steps_left c.args.steps.now c.loop-count.count none c.loop-count-test.true) c.loop-count.invariant c.in_ok-apply.ensures.goes c.in_ok-apply.ensures.window

pub returns : goal.returns
returns c =
    λ same. played_end c.args.net.now c.args.steps.now (drop c.loop-count.count c.args.steps.now) c.args.round.now c.loop-count.round
    (no_steps_left c.args.steps.now c.loop-count.count c.loop-count-test.false) c.loop-count.invariant
