use Rattle.std.proofs.Common.{ℕ, ◌+◌, ◌-◌, length, drop, refl, ap, ◌∙◌}
use Rattle.circular_buffer.specs.Buffer.{Buffer}
use Rattle.sock_tcp.specs.connection.Process.{raises_window}
use Rattle.sock_tcp.specs.segment.Control.{finds_end, control_read}
use Rattle.sock_tcp.specs.connection.Carried.{counted}
use Rattle.sock_tcp.proofs.Connections.ProcessCalls.{stands_reads}
use Rattle.sock_tcp.proofs.connection.conn.Conn.app_read.Goals as goal

pub returns-clause-stands : goal.returns-clause-stands
returns-clause-stands c = λ r h.
    let self = c.args.self.now in
    let asked : ℕ = length c.args.into.now in
    let before = c.own_window-before.ensures.value in
    let after = c.own_window.ensures.value in
    let owes = c.raises_window-owes.ensures ∙ (ap (λ n. raises_window n c.own_window.result) before ∙ ap (raises_window (65535 - length self.receive.items)) after) in
    let found = c.finds_end-found.ensures ∙ ap (λ n. finds_end asked n self.control) c.len.ensures.len in
    let control = c.after_read-self.ensures ∙ (ap (λ b. control_read b c.finds_end-found.result self.control) owes ∙ ap (λ b. control_read (raises_window (65535 - length self.receive.items) (65535 - length c.read_into-count.new.self.items)) b self.control) found) in
    let items = ap (λ (b : Buffer ℕ). b.items) c.read_into-count.ensures.items ∙ ap (λ n. drop n self.receive.items) c.read_into-count.ensures.count in
    let counts = c.was_read-self.ensures ∙ ap (λ n. record self.counts { read = counted (self.counts.read + n) }) c.read_into-count.ensures.count in
    stands_reads self _ r asked h
    (record { control = control; una = refl; sent = refl; highest = refl; duplicates = refl; recover = refl; rcv = refl; counts = counts; send = refl; receive = items })
