use Rattle.std.proofs.Common.{drop}
use Rattle.round_schedule.proofs.Going.{IsOnWay}
use Rattle.round_schedule.proofs.schedule.law_schedule.Given as goal

-- the steps that are left may be taken from here
abbrev pub invariant-loop-step : goal.invariant-loop-step
invariant-loop-step l = IsOnWay l.net l.steps (drop l.step-index l.steps) l.fn.round l.round
