use Rattle.file_laws.specs.Kinds.{pipes, eventfds, timers}
use Rattle.file_laws.proofs.Lives.{life_goes_on}
use Rattle.file_laws.proofs.lives_go_on.Goals as goal

pub returns-clause-pipes : goal.returns-clause-pipes
returns-clause-pipes c = life_goes_on pipes

pub returns-clause-eventfds : goal.returns-clause-eventfds
returns-clause-eventfds c = life_goes_on eventfds

pub returns-clause-timers : goal.returns-clause-timers
returns-clause-timers c = life_goes_on timers
