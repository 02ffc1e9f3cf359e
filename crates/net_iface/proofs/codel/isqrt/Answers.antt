use Rattle.net_iface.proofs.RootLemmas.{root_is}
use Rattle.net_iface.proofs.codel.isqrt.Goals as goal

pub returns-clause-root : goal.returns-clause-root
returns-clause-root c = root_is c.args.n c.isqrt.result c.isqrt.ensures.square_le c.isqrt.ensures.next_square_gt
