use Rattle.file_laws.specs.Kinds.{timers}
use Rattle.file_laws.proofs.Lives.{gone}
use Rattle.file_laws.proofs.Timers.{timer_counted}
use Rattle.file_laws.proofs.timers_are_counted.Goals as goal

pub returns-clause-there : goal.returns-clause-there
returns-clause-there c = timer_counted

pub returns-clause-gone : goal.returns-clause-gone
returns-clause-gone c = λ acts k none. gone timers acts k none
