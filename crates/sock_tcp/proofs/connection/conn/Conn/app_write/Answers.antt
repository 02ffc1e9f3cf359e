use Rattle.std.proofs.Common.{◌≡◌, ℕ, ◌+◌, ◌-◌, ◌++◌, length, take, min, true, false, refl, ap, ◌∙◌}
use Rattle.circular_buffer.specs.Buffer.{Buffer}
use Rattle.sock_tcp.specs.segment.Control.{takes_bytes}
use Rattle.sock_tcp.specs.connection.Carried.{counted}
use Rattle.sock_tcp.proofs.Connections.ProcessCalls.{written_count, written_none, stands_writes, stands_writes_none}
use Rattle.sock_tcp.proofs.connection.conn.Conn.app_write.Goals as goal

pub returns-then-takes_bytes-clause-count : goal.returns-then-takes_bytes-clause-count
returns-then-takes_bytes-clause-count c = λ r h.
    let self = c.args.self.now in
    let bytes = c.args.bytes.now in
    let takes : takes_bytes self.control ≡ true = cc in
    c.fill_from_slice-count.ensures.count
    ∙ (ap (λ n. min (length bytes) (n - length self.send.items)) self.send_room ∙ written_count self r bytes h takes)

pub returns-then-takes_bytes-clause-stands : goal.returns-then-takes_bytes-clause-stands
returns-then-takes_bytes-clause-stands c = λ r h.
    let self = c.args.self.now in
    let bytes = c.args.bytes.now in
    let takes : takes_bytes self.control ≡ true = cc in
    let count = c.fill_from_slice-count.ensures.count ∙ ap (λ n. min (length bytes) (n - length self.send.items)) self.send_room in
    let items = ap (λ (b : Buffer ℕ). b.items) c.fill_from_slice-count.ensures.items ∙ ap (λ n. self.send.items ++ take n bytes) count in
    let counts = c.wrote-self.ensures ∙ ap (λ n. record self.counts { written = counted (self.counts.written + n) }) count in
    stands_writes self _ r bytes h takes
    (record { control = refl; una = refl; sent = refl; highest = refl; duplicates = refl; recover = refl; rcv = refl; counts = counts; send = items; receive = refl })

pub returns-else-takes_bytes-clause-count : goal.returns-else-takes_bytes-clause-count
returns-else-takes_bytes-clause-count c = λ r h.
    let takes : takes_bytes c.args.self.now.control ≡ false = cc in
    written_none c.args.self.now r c.args.bytes.now h takes

pub returns-else-takes_bytes-clause-stands : goal.returns-else-takes_bytes-clause-stands
returns-else-takes_bytes-clause-stands c = λ r h.
    let takes : takes_bytes c.args.self.now.control ≡ false = cc in
    stands_writes_none c.args.self.now r c.args.bytes.now h takes
