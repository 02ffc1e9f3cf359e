use Rattle.std.proofs.Common.{List, ap, ◌∙◌}
use Rattle.std.specs.List.{list_any}
use Rattle.std.specs.HashMap.{get}
use Rattle.sim_base.specs.declared.address.Ip.{Ip}
use Rattle.sim_base.specs.Addresses.{is_same}
use Rattle.udp_table.specs.inside.Indexing.{meets_there}
use Rattle.udp_table.proofs.Meeting.{met_among}
use Rattle.udp_table.proofs.index.Index.is_taken.Goals as goal

pub returns : goal.returns
returns c = λ places h.
    c.is_met_at.ensures
    ∙ (ap (λ (ips : List Ip). list_any (meets_there (get is_same c.args.self.now.bound) c.args.at) ips) c.as_slice.ensures.value
    ∙ met_among (get is_same c.args.self.now.bound) c.args.self.now.addresses.items places c.args.at h.bound h.addresses)
