use Rattle.std.proofs.Common.{subst}
use Rattle.run_plan.specs.declared.planned.Run.{Run}
use Rattle.plan_rows.specs.Rows.{net_of}
use Rattle.schedule_tests.specs.inside.Played.{AreAllowed, first_state}
use Rattle.schedule_tests.proofs.Stepping.{may_begin, allowed_first}
use Rattle.schedule_tests.proofs.schedules.tried.Goals as goal

pub play-requires : goal.play-requires
play-requires g c = may_begin c.in_ok-run.run' c.in_ok-round.round c.in_ok-round.net c.in_ok-round.ensures

pub replay-requires-clause-allowed : goal.replay-requires-clause-allowed
replay-requires-clause-allowed g c =
    subst (λ (run : Run). AreAllowed (net_of run) c.args.steps.now (first_state run)) c.in_ok-run.ensures.same
    (allowed_first c.in_ok-run.run' c.in_ok-round.round c.in_ok-round.net c.in_ok-round.ensures c.args.steps.now (c.in_ok-count.ensures c.if-count-steps.true))
