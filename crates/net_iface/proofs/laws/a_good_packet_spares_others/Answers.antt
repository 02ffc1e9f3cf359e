use Rattle.net_iface.proofs.DropLaws.{spared, good_release, good_follows}
use Rattle.net_iface.proofs.laws.a_good_packet_spares_others.Goals as goal

pub returns-clause-release : goal.returns-clause-release
returns-clause-release c = good_release

pub returns-clause-follows : goal.returns-clause-follows
returns-clause-follows c = good_follows

pub returns-clause-spared : goal.returns-clause-spared
returns-clause-spared c = spared
