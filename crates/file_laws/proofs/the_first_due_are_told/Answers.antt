use Rattle.file_laws.proofs.Telling.{the_first}
use Rattle.file_laws.proofs.the_first_due_are_told.Goals as goal

pub returns : goal.returns
returns c = the_first
