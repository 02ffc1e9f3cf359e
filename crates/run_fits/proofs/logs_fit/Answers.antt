use Rattle.host_link.specs.Logs.{lines_of}
use Rattle.run_fits.proofs.Worlds.{log_whole, whole_fit}
use Rattle.run_fits.proofs.logs_fit.Goals as goal

pub returns-clause-whole : goal.returns-clause-whole
returns-clause-whole c = log_whole

pub returns-clause-fit : goal.returns-clause-fit
returns-clause-fit c = λ net rows w lent fits reached. whole_fit (lines_of w.log) (log_whole net rows w lent fits reached)
