use Rattle.net_routes.proofs.TableLemmas.{one_table}
use Rattle.net_routes.proofs.laws.one_table.Goals as goal

pub returns : goal.returns
returns c = one_table
