use Rattle.file_laws.specs.Kinds.{pipes}
use Rattle.file_laws.proofs.Lives.{gone}
use Rattle.file_laws.proofs.Pipes.{pipe_counted}
use Rattle.file_laws.proofs.pipes_are_counted.Goals as goal

pub returns-clause-there : goal.returns-clause-there
returns-clause-there c = pipe_counted

pub returns-clause-gone : goal.returns-clause-gone
returns-clause-gone c = λ acts k none. gone pipes acts k none
