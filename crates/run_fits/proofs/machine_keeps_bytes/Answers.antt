use Rattle.run_fits.proofs.Machine.{turn_kept}
use Rattle.run_fits.proofs.machine_keeps_bytes.Goals as goal

pub returns : goal.returns
returns c = turn_kept
