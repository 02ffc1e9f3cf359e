use Rattle.std.specs.List.{sum_by}
use Rattle.number_sets.specs.Ports.{had}
use Rattle.number_sets.proofs.PortsCounted.{holds_same}
use Rattle.udp_table.specs.Table.{bound_ends}
use Rattle.udp_table.specs.inside.Indexing.{times}
use Rattle.udp_table.proofs.Counted.{all_had}
use Rattle.udp_table.proofs.index.Index.free_port.Goals as goal

pub returns : goal.returns
returns c = λ places h.
    c.free_port.ensures (bound_ends places) (holds_same c.args.self.now.ports (λ n. sum_by (times n) places) (λ n. sum_by (had n) (bound_ends places)) (λ n. all_had n places) h.ports)
