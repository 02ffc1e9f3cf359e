use Rattle.host_laws.proofs.Stretches.{slice_short, kept_short}
use Rattle.host_laws.proofs.slices_are_short.Goals as goal

pub returns-clause-fresh : goal.returns-clause-fresh
returns-clause-fresh c = slice_short

pub returns-clause-kept : goal.returns-clause-kept
returns-clause-kept c = kept_short
