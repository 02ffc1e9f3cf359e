use Rattle.schedule_tests.proofs.Reading.{one_run}
use Rattle.schedule_tests.proofs.inputs.read_twice.Goals as goal

pub returns-clause-same : goal.returns-clause-same
returns-clause-same g c = one_run c.one_plan.ensures _ _ _ c.in_ok-first.first c.in_ok-second.second c.in_ok-first.ensures.same c.in_ok-first.ensures.told c.in_ok-second.ensures.told
