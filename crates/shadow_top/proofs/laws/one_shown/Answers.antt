use Rattle.shadow_top.proofs.OneShown.{one_shown}
use Rattle.shadow_top.proofs.laws.one_shown.Goals as goal

pub returns : goal.returns
returns c = one_shown c.one_plan.ensures c.one_datagram.ensures c.one_result.ensures.at_most
