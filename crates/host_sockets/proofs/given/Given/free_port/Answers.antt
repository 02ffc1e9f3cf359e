use Rattle.std.proofs.Common.{sym, ◌∙◌}
use Rattle.std.specs.List.{flat_map, sum_by}
use Rattle.number_sets.specs.Ports.{had}
use Rattle.number_sets.proofs.PortsCounted.{holds_same}
use Rattle.host_sockets.specs.TcpSocket.{ends_of}
use Rattle.host_sockets.specs.inside.Given.{times}
use Rattle.host_sockets.proofs.EndsFound.{some_is}
use Rattle.host_sockets.proofs.PortsCounted.{ends_counted}
use Rattle.host_sockets.proofs.given.Given.free_port.Goals as goal

pub returns : goal.returns
returns c = λ free e sockets h.
    sym (some_is c.free_port.result free e)
    ∙ c.free_port.ensures (flat_map ends_of sockets)
    (holds_same c.args.self.now.counts (λ n. sum_by (times n) c.args.self.now.ends.items) (λ n. sum_by (had n) (flat_map ends_of sockets))
    (λ n. ends_counted c.args.self.now c.args.socks.now sockets c.args.last n c.requires c.if-last-socks.false h)
    c.requires.counts)
