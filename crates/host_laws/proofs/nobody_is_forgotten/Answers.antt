use Rattle.host_laws.proofs.Firing.{none_forgotten}
use Rattle.host_laws.proofs.nobody_is_forgotten.Goals as goal

pub returns : goal.returns
returns c = λ net host e p why few blocked. none_forgotten net e host p why few blocked
