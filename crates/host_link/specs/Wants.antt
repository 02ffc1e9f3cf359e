-- What a host's calls want of its link is done at once, after each act.
use Rattle.std.specs.Prelude.{List, [], ◌∷◌}
use Rattle.sim_base.specs.declared.address.Ip.{Ip}
use Rattle.sim_base.specs.declared.event.What.TheVariants as what
use Rattle.host_wants.specs.declared.outlet.Want.{Want}
use Rattle.host_wants.specs.declared.outlet.Want.TheVariants.{Send, Alarm}
use Rattle.host_wants.specs.Wanted.{without_wants}
use Rattle.host_link.specs.Net.{Net}
use Rattle.host_link.specs.Link.{makes}
use Rattle.host_link.specs.Sending.{Wire, sends}

-- a packet that is wanted is sent, and an alarm is an event
unfoldable pub does_want : Net → Ip → Want → Wire → Wire
does_want net own (Send packet) wire = sends net own packet wire
does_want net own (Alarm target serial due) (link, wanted) = (makes due (what.Alarm target serial) link, wanted)

unfoldable pub does_all : Net → Ip → List Want → Wire → Wire
does_all net own [] wire = wire
does_all net own (want ∷ wants) wire = does_all net own wants (does_want net own want wire)

unfoldable pub does_wants : Net → Ip → Wire → Wire
does_wants net own (link, wanted) = does_all net own wanted.wants (link, without_wants wanted)
