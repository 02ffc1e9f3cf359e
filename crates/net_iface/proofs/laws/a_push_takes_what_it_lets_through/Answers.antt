use Rattle.net_iface.proofs.PushLaws.{taken_by_push, spared_by_push}
use Rattle.net_iface.proofs.laws.a_push_takes_what_it_lets_through.Goals as goal

pub returns-clause-taken : goal.returns-clause-taken
returns-clause-taken c = taken_by_push

pub returns-clause-spares : goal.returns-clause-spares
returns-clause-spares c = spared_by_push
