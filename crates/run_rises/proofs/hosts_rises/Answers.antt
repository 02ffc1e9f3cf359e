use Rattle.run_rises.proofs.Worlds.{whole_history, leaves, rises}
use Rattle.run_rises.proofs.hosts_rises.Goals as goal

pub returns : goal.returns
returns c = λ net rows w i h reached at.
    (whole_history net rows w i h reached at, (leaves net rows w i h reached at, rises net rows w i h reached at))
