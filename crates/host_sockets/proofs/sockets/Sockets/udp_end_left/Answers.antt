use Rattle.std.proofs.Common.{List, Option, ap, ◌∙◌}
use Rattle.std.specs.List.{flat_map}
use Rattle.sock_udp.specs.Socket.{UdpState, end_left}
use Rattle.host_sockets.specs.Udp.{udp_end}
use Rattle.host_sockets.proofs.sockets.Sockets.udp_end_left.Goals as goal

pub returns : goal.returns
returns c = λ t h. c.end_left.ensures ∙ ap (λ (slots : List (Option UdpState)). end_left (flat_map udp_end slots) c.args.at) h.udp
