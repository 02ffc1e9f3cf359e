use Rattle.std.proofs.Common.{drop}
use Rattle.schedule_tests.proofs.Stepping.{HasPlayed}
use Rattle.schedule_tests.proofs.playing.play.Given as goal

abbrev pub invariant-loop-count : goal.invariant-loop-count
invariant-loop-count l = HasPlayed l.net l.steps (drop l.count l.steps) l.initial.round l.round
