use Rattle.host_sockets.proofs.Indexed.{others_of_all, others_known, others_counted}
use Rattle.host_sockets.proofs.index.Index.turn_to.Goals as goal

pub returns-clause-indexes : goal.returns-clause-indexes
returns-clause-indexes c = record {
  tables = λ t is. others_of_all c.args.place t c.args.socks.now (c.updated.ensures t is);
  room = λ r is. others_known c.args.place r c.args.socks.now (c.told.ensures r is);
  given = λ g is. others_counted c.args.place g c.args.socks.now (c.counted.ensures g is);
}
