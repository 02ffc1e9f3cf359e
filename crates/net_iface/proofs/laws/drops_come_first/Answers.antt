use Rattle.net_iface.proofs.DropLaws.{drops_first}
use Rattle.net_iface.proofs.laws.drops_come_first.Goals as goal

pub returns : goal.returns
returns c = drops_first
