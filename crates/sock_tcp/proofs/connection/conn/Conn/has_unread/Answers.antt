use Rattle.std.proofs.Common.{not, ap, ◌∙◌}
use Rattle.sock_tcp.proofs.Connections.Phases.{holds_unread}
use Rattle.sock_tcp.proofs.connection.conn.Conn.has_unread.Goals as goal

pub returns : goal.returns
returns c = λ r h. ap not c.is_empty.ensures ∙ holds_unread c.args.self.now r h
