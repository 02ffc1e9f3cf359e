use Rattle.socket_laws.proofs.ApartActs.{bound_apart}
use Rattle.socket_laws.proofs.bound_apart.Goals as goal

pub returns : goal.returns
returns c = λ hosts own draws acts. bound_apart hosts own draws acts
