use Rattle.std.proofs.Common.{nat_lt, length, ap, ◌∙◌}
use Rattle.sock_tcp.proofs.Connections.Places.{same_length}
use Rattle.sock_tcp.proofs.listener.Listener.has_room.Goals as goal

pub returns : goal.returns
returns c = λ l h.
    let self = c.args.self.now in
    let count = c.len.ensures ∙ (self.records.ok.0 ∙ same_length self.records.items l.records h.records) in
    ap (λ n. nat_lt n self.limit) count ∙ ap (nat_lt (length l.records)) h.limit
