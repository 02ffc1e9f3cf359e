use Rattle.std.proofs.Common.{arith}
use Rattle.self_load.proofs.GraphBack.{file_back}
use Rattle.self_load.proofs.graph_text.graph_file.Goals as goal

pub returns : goal.returns
returns c = file_back c.args.hosts c.ring_text.result (let some = c.requires.some in omega (arith, some)) c.requires.few c.ring_text.ensures
