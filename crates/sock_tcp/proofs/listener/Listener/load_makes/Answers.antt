use Rattle.std.proofs.Common.{ap, ◌∙◌}
use Rattle.sock_tcp.specs.listener.Listen.{header_makes}
use Rattle.sock_tcp.proofs.listener.Listener.load_makes.Goals as goal

pub returns-in-None : goal.returns-in-None
returns-in-None c = λ l h. ap (λ o. header_makes o l) c.in-None.ensures

pub returns-in-Some : goal.returns-in-Some
returns-in-Some c = λ l h. c.header_makes.ensures l h ∙ ap (λ o. header_makes o l) c.in-Some.ensures
