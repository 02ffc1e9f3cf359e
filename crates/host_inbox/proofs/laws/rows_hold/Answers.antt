use Rattle.std.specs.Prelude.{IsTrue}
use Rattle.host_inbox.proofs.RowSteps.{rows_hold}
use Rattle.host_inbox.proofs.laws.rows_hold.Goals as goal

pub returns : goal.returns
returns g c holds = rows_hold (λ host parcel. IsTrue (holds host parcel))
