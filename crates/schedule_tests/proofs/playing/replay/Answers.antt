use Rattle.schedule_tests.proofs.Stepping.{may_go}
use Rattle.schedule_tests.proofs.playing.replay.Goals as goal

pub law_schedule-requires : goal.law_schedule-requires
law_schedule-requires c = may_go c.args.run _ _ c.in_ok-round.ensures c.args.steps.now c.requires.allowed
