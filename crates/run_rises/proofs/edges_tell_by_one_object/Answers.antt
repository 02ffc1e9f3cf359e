use Rattle.run_rises.proofs.Marks.{edge_tells}
use Rattle.run_rises.proofs.edges_tell_by_one_object.Goals as goal

pub returns : goal.returns
returns c = edge_tells
