use Rattle.std.proofs.Common.{List, Option, ap, ◌∙◌}
use Rattle.sim_base.specs.Addresses.{is_taken}
use Rattle.sock_udp.specs.declared.ends.UdpEnds.{UdpEnds}
use Rattle.udp_table.specs.Table.{bound_ends}
use Rattle.udp_table.proofs.Meeting.{met_in}
use Rattle.udp_table.proofs.table.UdpTable.is_taken.Goals as goal

pub returns-in-None : goal.returns-in-None
returns-in-None c =
    c.is_taken_in.ensures
    ∙ (met_in c.args.at c.as_slice.result.now
    ∙ ap (λ (places : List (Option UdpEnds)). is_taken (bound_ends places) c.args.at) (c.as_slice.ensures.value ∙ c.self.view_is))
