use Rattle.socket_laws.proofs.ApartTakers.{one_takes}
use Rattle.socket_laws.proofs.one_takes.Goals as goal

pub returns : goal.returns
returns c = λ hosts own draws acts from to i j u v there takes other too. one_takes hosts own draws acts from to i j u v there takes other too
