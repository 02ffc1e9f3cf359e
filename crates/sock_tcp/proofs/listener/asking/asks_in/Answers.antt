use Rattle.std.proofs.Common.{ap, ◌∙◌}
use Rattle.sock_tcp.specs.listener.Listen.{asks_in}
use Rattle.sock_tcp.proofs.listener.asking.asks_in.Goals as goal

pub returns-in-None : goal.returns-in-None
returns-in-None c = ap asks_in c.in-None.ensures

pub returns-in-Some : goal.returns-in-Some
returns-in-Some c = c.asks.ensures ∙ ap asks_in c.in-Some.ensures
