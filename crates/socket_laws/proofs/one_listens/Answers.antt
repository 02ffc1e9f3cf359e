use Rattle.socket_laws.proofs.ListenActs.{one_listens}
use Rattle.socket_laws.proofs.one_listens.Goals as goal

pub returns : goal.returns
returns c = λ hosts own draws acts to i j a b there first other second. one_listens hosts own draws acts to i j a b there first other second
