use Rattle.std.proofs.Common.{not, ap, ◌∙◌}
use Rattle.sock_tcp.proofs.Connections.Phases.{holds_text}
use Rattle.sock_tcp.proofs.connection.conn.Conn.has_text.Goals as goal

pub returns : goal.returns
returns c = λ r h. ap not c.is_empty.ensures ∙ holds_text c.args.self.now r h c.requires
