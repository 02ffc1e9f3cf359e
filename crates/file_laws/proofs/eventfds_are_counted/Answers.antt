use Rattle.file_laws.specs.Kinds.{eventfds}
use Rattle.file_laws.proofs.Lives.{gone}
use Rattle.file_laws.proofs.Eventfds.{eventfd_is_counted}
use Rattle.file_laws.proofs.eventfds_are_counted.Goals as goal

pub returns-clause-there : goal.returns-clause-there
returns-clause-there c = eventfd_is_counted

pub returns-clause-gone : goal.returns-clause-gone
returns-clause-gone c = λ acts k none. gone eventfds acts k none
