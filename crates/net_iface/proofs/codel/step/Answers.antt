use Rattle.net_iface.proofs.RootLemmas.{small_root}
use Rattle.net_iface.proofs.codel.step.Goals as goal

pub returns-clause-short : goal.returns-clause-short
returns-clause-short c = small_root c.isqrt.result c.args.count 100000000 c.isqrt.ensures.square
