-- what the process changes
use Rattle.std.proofs.Common.{◌≡◌, ℕ, ◌+◌, ◌-◌, ◌≤◌, List, [], ◌++◌, length, take, drop, min, Bool, true, false, not, ◌||◌, if◌then◌else◌, refl, sym, ap, subst, ◌∙◌, append-nil, length-append, arith}
use Rattle.std.proofs.lemmas.List.{drop-drop, drop-append-le, length-drop, length-take, take_min}
use Rattle.circular_buffer.specs.Buffer.{Buffer}
use Rattle.sock_tcp.specs.declared.connection.conn.Conn.{Conn}
use Rattle.sock_tcp.specs.declared.connection.effects.Draft.{Draft}
use Rattle.sock_tcp.specs.declared.segment.control.Control.{Control}
use Rattle.sock_tcp.specs.declared.segment.state.TcpState.{TcpState}
use Rattle.sock_tcp.specs.declared.segment.state.TcpState.TheVariants.{SynSent, SynReceived, Established, FinWait1, FinWait2, CloseWait, Closing, LastAck, TimeWait, Ended, Vanished}
use Rattle.sock_tcp.specs.declared.segment.state.Phase.{Phase}
use Rattle.sock_tcp.specs.declared.segment.state.Phase.TheVariants.{Opening, Open, Ending, Finished, Over}
use Rattle.sock_tcp.specs.segment.State.{phase_of, is_over, is_opening, after_writing}
use Rattle.sock_tcp.specs.connection.Tcb.{Tcb, Turn, data_end, unread, with_control, changed}
use Rattle.sock_tcp.specs.segment.Control.{takes_bytes, finds_end, control_read, writing_ended}
use Rattle.sock_tcp.specs.connection.Segment.{sends_ack}
use Rattle.sock_tcp.specs.connection.Process.{room, bytes_taken, writes, raises_window, reads, ack_paid, pays_ack}
use Rattle.sock_tcp.specs.declared.connection.carried.Counts.{Counts}
use Rattle.sock_tcp.specs.connection.Carried.{counted, counts_of}
use Rattle.sock_tcp.specs.connection.StandsFor.{StandsFor, Stands, FitsPhase}

-- the numbers and lists stay
pub record SameLists (c c' : Conn) : Type 0 where
  pub una : c'.una ≡ c.una
  pub sent : c'.sent ≡ c.sent
  pub highest : c'.highest ≡ c.highest
  pub duplicates : c'.duplicates ≡ c.duplicates
  pub recover : c'.recover ≡ c.recover
  pub rcv : c'.rcv ≡ c.rcv
  pub counts : c'.counts ≡ c.counts
  pub send : c'.send ≡ c.send
  pub receive : c'.receive ≡ c.receive

-- a change of the control alone
stands_control : (c c' : Conn) (r : Tcb) (f : Control → Control) → StandsFor c r → SameLists c c' → c'.control ≡ f c.control → FitsPhase (phase_of (f r.control).state) (f r.control).fin_wanted r.una r.nxt r.highest (data_end r) → StandsFor c' (with_control f r)
stands_control c c' r f h e k p = record {
  control = k ∙ ap f h.control;
  una = e.una ∙ h.una;
  next = ap (λ n. r.una + n) e.sent ∙ h.next;
  highest = ap (λ n. r.una + n) e.highest ∙ h.highest;
  duplicates = e.duplicates ∙ h.duplicates;
  recover = e.recover ∙ h.recover;
  rcv = e.rcv ∙ h.rcv;
  counts = e.counts ∙ h.counts;
  send = ap (λ (b : Buffer ℕ). b.items) e.send ∙ h.send;
  receive = ap (λ (b : Buffer ℕ). b.items) e.receive ∙ h.receive;
  read = h.read;
  phase = p;
}

-- the ACK that was owed is sent, and owed no more
pub stands_pays : (c c' : Conn) (d d' : Draft) (t : Turn) → Stands c d t → c.control.owes_ack ≡ true → Stands c d' (sends_ack t) → SameLists c c' → c'.control ≡ ack_paid c.control → Stands c' d' (pays_ack t)
unfolding pays_ack
stands_pays c c' d d' t h owes sent e k =
    let owed : t.tcb.control.owes_ack ≡ true = sym (ap (λ x. x.owes_ack) h.conn.control) ∙ owes in
    let paid : Turn = changed (with_control ack_paid) (sends_ack t) in
    subst (λ (x : Turn). Stands c' d' x) (sym (ap (λ (b : Bool). if b then paid else t) owed))
    (record {
      conn = stands_control c c' (sends_ack t).tcb ack_paid sent.conn e k sent.conn.phase;
      segments = sent.segments;
      started = sent.started;
    })

-- the end of writing
pub phase_writing_ended : (state : TcpState) (wanted : Bool) (una nxt highest end : ℕ) → is_opening state ≡ false → una ≤ nxt → FitsPhase (phase_of state) wanted una nxt highest end → FitsPhase (phase_of (after_writing state)) true una nxt highest end
phase_writing_ended SynSent wanted una nxt highest end o n h = cc
phase_writing_ended SynReceived wanted una nxt highest end o n h = cc
phase_writing_ended Established wanted una nxt highest end o n h = (refl, h.1, omega arith, omega arith, omega arith)
phase_writing_ended FinWait1 wanted una nxt highest end o n h = (refl, h.1, h.2, h.3, h.4)
phase_writing_ended FinWait2 wanted una nxt highest end o n h = (refl, h.1)
phase_writing_ended CloseWait wanted una nxt highest end o n h = (refl, h.1, omega arith, omega arith, omega arith)
phase_writing_ended Closing wanted una nxt highest end o n h = (refl, h.1, h.2, h.3, h.4)
phase_writing_ended LastAck wanted una nxt highest end o n h = (refl, h.1, h.2, h.3, h.4)
phase_writing_ended TimeWait wanted una nxt highest end o n h = (refl, h.1)
phase_writing_ended Ended wanted una nxt highest end o n h = tt
phase_writing_ended Vanished wanted una nxt highest end o n h = tt

pub stands_writing_ended : (c c' : Conn) (r : Tcb) → StandsFor c r → SameLists c c' → is_opening c.control.state ≡ false → c'.control ≡ writing_ended c.control → StandsFor c' (with_control writing_ended r)
unfolding writing_ended
stands_writing_ended c c' r h e o k =
    let t : is_opening r.control.state ≡ false = sym (ap (λ x. is_opening x.state) h.control) ∙ o in
    stands_control c c' r writing_ended h e k (phase_writing_ended r.control.state r.control.fin_wanted r.una r.nxt r.highest (data_end r) t (omega (arith, h.next)) h.phase)

-- what was written may grow
pub phase_longer : (p : Phase) (wanted : Bool) (una nxt highest end longer : ℕ) → end ≤ longer → FitsPhase p wanted una nxt highest end → FitsPhase p wanted una nxt highest longer
phase_longer Opening wanted una nxt highest end longer b h = h
phase_longer Open wanted una nxt highest end longer b h = (h.0, h.1, omega arith, omega arith)
phase_longer Ending wanted una nxt highest end longer b h = (h.0, h.1, omega arith, omega arith, omega arith)
phase_longer Finished wanted una nxt highest end longer b h = h
phase_longer Over wanted una nxt highest end longer b h = tt

-- while bytes are taken, what isn't acknowledged begins within what was written
within_written : (state : TcpState) (wanted : Bool) (una nxt highest end : ℕ) → not (wanted || is_over state) ≡ true → una ≤ nxt → 1 ≤ end → FitsPhase (phase_of state) wanted una nxt highest end → una ≤ end
within_written SynSent true una nxt highest end t n o h = omega arith
within_written SynSent false una nxt highest end t n o h = omega arith
within_written SynReceived true una nxt highest end t n o h = omega arith
within_written SynReceived false una nxt highest end t n o h = omega arith
within_written Established true una nxt highest end t n o h = omega arith
within_written Established false una nxt highest end t n o h = omega arith
within_written FinWait1 true una nxt highest end t n o h = h.2
within_written FinWait1 false una nxt highest end t n o h = h.2
within_written FinWait2 true una nxt highest end t n o h = cc
within_written FinWait2 false una nxt highest end t n o h = let no : false ≡ true = h.0 in cc
within_written CloseWait true una nxt highest end t n o h = omega arith
within_written CloseWait false una nxt highest end t n o h = omega arith
within_written Closing true una nxt highest end t n o h = h.2
within_written Closing false una nxt highest end t n o h = h.2
within_written LastAck true una nxt highest end t n o h = h.2
within_written LastAck false una nxt highest end t n o h = h.2
within_written TimeWait true una nxt highest end t n o h = cc
within_written TimeWait false una nxt highest end t n o h = let no : false ≡ true = h.0 in cc
within_written Ended true una nxt highest end t n o h = cc
within_written Ended false una nxt highest end t n o h = cc
within_written Vanished true una nxt highest end t n o h = cc
within_written Vanished false una nxt highest end t n o h = cc

bytes_taken_open : (bytes : List ℕ) (r : Tcb) → takes_bytes r.control ≡ true → bytes_taken bytes r ≡ take (room r) bytes
unfolding bytes_taken
bytes_taken_open bytes r e = ap (λ b. if b then take (room r) bytes else []) e

bytes_taken_ended : (bytes : List ℕ) (r : Tcb) → takes_bytes r.control ≡ false → bytes_taken bytes r ≡ []
unfolding bytes_taken
bytes_taken_ended bytes r e = ap (λ b. if b then take (room r) bytes else []) e

control_takes : (c : Conn) (r : Tcb) (b : Bool) → StandsFor c r → takes_bytes c.control ≡ b → takes_bytes r.control ≡ b
control_takes c r b h e = sym (ap takes_bytes h.control) ∙ e

pub written_count : (c : Conn) (r : Tcb) (bytes : List ℕ) → StandsFor c r → takes_bytes c.control ≡ true → min (length bytes) (65535 - length c.send.items) ≡ length (bytes_taken bytes r)
written_count c r bytes h e =
    let taken = ap length (bytes_taken_open bytes r (control_takes c r true h e)) in
    omega (arith, taken, length-take (room r) bytes, ap length h.send)

pub written_none : (c : Conn) (r : Tcb) (bytes : List ℕ) → StandsFor c r → takes_bytes c.control ≡ false → 0 ≡ length (bytes_taken bytes r)
written_none c r bytes h e = sym (ap length (bytes_taken_ended bytes r (control_takes c r false h e)))

fitting : (bytes : List ℕ) (room : ℕ) → take (min (length bytes) room) bytes ≡ take room bytes
fitting bytes room =
    let e : min (length bytes) room ≡ min room (length bytes) = omega arith in
    ap (λ n. take n bytes) e ∙ take_min room bytes

-- the counts of a write and of a read
counted_more : (count n more : ℕ) → count ≡ counted n → counted (count + more) ≡ counted (n + more)
counted_more count n more e = omega (arith, e)

wrote : (k : Counts) (r : Tcb) (count : ℕ) (taken : List ℕ) → k ≡ counts_of r → count ≡ length taken → record k { written = counted (k.written + count) } ≡ counts_of (record r { written = r.written ++ taken })
wrote k r count taken e n =
    let more : counted (k.written + count) ≡ counted (length (r.written ++ taken)) = ap (λ m. counted (k.written + m)) n ∙ (counted_more k.written (length r.written) (length taken) (ap (λ x. x.written) e) ∙ ap counted (sym (length-append r.written taken))) in
    ap (λ (m : ℕ). record k { written = m }) more ∙ ap (λ (x : Counts). record x { written = counted (length (r.written ++ taken)) }) e

was_read : (k : Counts) (r : Tcb) (count given : ℕ) → k ≡ counts_of r → count ≡ given → record k { read = counted (k.read + count) } ≡ counts_of (record r { read = r.read + given })
was_read k r count given e n =
    let more : counted (k.read + count) ≡ counted (r.read + given) = ap (λ m. counted (k.read + m)) n ∙ counted_more k.read r.read given (ap (λ x. x.read) e) in
    ap (λ (m : ℕ). record k { read = m }) more ∙ ap (λ (x : Counts). record x { read = counted (r.read + given) }) e

-- what a write changes
pub record WritesTo (c c' : Conn) (bytes : List ℕ) : Type 0 where
  pub control : c'.control ≡ c.control
  pub una : c'.una ≡ c.una
  pub sent : c'.sent ≡ c.sent
  pub highest : c'.highest ≡ c.highest
  pub duplicates : c'.duplicates ≡ c.duplicates
  pub recover : c'.recover ≡ c.recover
  pub rcv : c'.rcv ≡ c.rcv
  pub counts : c'.counts ≡ record c.counts { written = counted (c.counts.written + min (length bytes) (65535 - length c.send.items)) }
  pub send : c'.send.items ≡ c.send.items ++ take (min (length bytes) (65535 - length c.send.items)) bytes
  pub receive : c'.receive ≡ c.receive

pub stands_writes : (c c' : Conn) (r : Tcb) (bytes : List ℕ) → StandsFor c r → takes_bytes c.control ≡ true → WritesTo c c' bytes → StandsFor c' (writes bytes r)
unfolding writes
stands_writes c c' r bytes h b e =
    let t = control_takes c r true h b in
    let taken = bytes_taken bytes r in
    let within = within_written r.control.state r.control.fin_wanted r.una r.nxt r.highest (data_end r) t (omega (arith, h.next)) (omega arith) h.phase in
    let room_is : 65535 - length c.send.items ≡ room r = ap (λ n. 65535 - n) (ap length h.send) in
    let more : take (min (length bytes) (65535 - length c.send.items)) bytes ≡ taken = fitting bytes (65535 - length c.send.items) ∙ (ap (λ n. take n bytes) room_is ∙ sym (bytes_taken_open bytes r t)) in
    let count : min (length bytes) (65535 - length c.send.items) ≡ length taken = written_count c r bytes h b in
    let longer : data_end r ≤ 1 + length (r.written ++ taken) = omega (arith, length-append r.written taken) in
    record {
      control = e.control ∙ h.control;
      una = e.una ∙ h.una;
      next = ap (λ n. r.una + n) e.sent ∙ h.next;
      highest = ap (λ n. r.una + n) e.highest ∙ h.highest;
      duplicates = e.duplicates ∙ h.duplicates;
      recover = e.recover ∙ h.recover;
      rcv = e.rcv ∙ h.rcv;
      counts = e.counts ∙ wrote c.counts r _ (bytes_taken bytes r) h.counts count;
      send = e.send ∙ (ap (λ items. items ++ take (min (length bytes) (65535 - length c.send.items)) bytes) h.send ∙ (ap (λ xs. drop (r.una - 1) r.written ++ xs) more ∙ sym (drop-append-le (r.una - 1) r.written taken (omega (arith, within)))));
      receive = ap (λ (b : Buffer ℕ). b.items) e.receive ∙ h.receive;
      read = h.read;
      phase = phase_longer (phase_of r.control.state) r.control.fin_wanted r.una r.nxt r.highest (data_end r) (1 + length (r.written ++ taken)) longer h.phase;
    }

pub stands_writes_none : (c : Conn) (r : Tcb) (bytes : List ℕ) → StandsFor c r → takes_bytes c.control ≡ false → StandsFor c (writes bytes r)
unfolding writes
stands_writes_none c r bytes h b =
    let t = control_takes c r false h b in
    let same : r.written ++ bytes_taken bytes r ≡ r.written = ap (λ xs. r.written ++ xs) (bytes_taken_ended bytes r t) ∙ append-nil r.written in
    subst (λ (xs : List ℕ). StandsFor c (record r { written = xs })) (sym same) h

-- what a read changes
pub record ReadsTo (c c' : Conn) (asked : ℕ) : Type 0 where
  pub control : c'.control ≡ control_read (raises_window (65535 - length c.receive.items) (65535 - length c'.receive.items)) (finds_end asked (length c.receive.items) c.control) c.control
  pub una : c'.una ≡ c.una
  pub sent : c'.sent ≡ c.sent
  pub highest : c'.highest ≡ c.highest
  pub duplicates : c'.duplicates ≡ c.duplicates
  pub recover : c'.recover ≡ c.recover
  pub rcv : c'.rcv ≡ c.rcv
  pub counts : c'.counts ≡ record c.counts { read = counted (c.counts.read + min asked (length c.receive.items)) }
  pub send : c'.send ≡ c.send
  pub receive : c'.receive.items ≡ drop (min asked (length c.receive.items)) c.receive.items

pub stands_reads : (c c' : Conn) (r : Tcb) (asked : ℕ) → StandsFor c r → ReadsTo c c' asked → StandsFor c' (reads asked r)
unfolding reads
stands_reads c c' r asked h e =
    let waiting : length c.receive.items ≡ unread r = ap length h.receive ∙ length-drop r.read r.received in
    let given : ℕ = min asked (unread r) in
    let rest : c'.receive.items ≡ drop (r.read + given) r.received = e.receive ∙ (ap (λ n. drop (min asked n) c.receive.items) waiting ∙ (ap (drop given) h.receive ∙ drop-drop given r.read r.received)) in
    let left : length c'.receive.items ≡ length r.received - (r.read + given) = ap length rest ∙ length-drop (r.read + given) r.received in
    record {
      control = e.control
          ∙ (ap (λ n. control_read (raises_window (65535 - n) (65535 - length c'.receive.items)) (finds_end asked n c.control) c.control) waiting
          ∙ (ap (λ n. control_read (raises_window (65535 - unread r) (65535 - n)) (finds_end asked (unread r) c.control) c.control) left
          ∙ ap (λ k. control_read (raises_window (65535 - unread r) (65535 - (length r.received - (r.read + given)))) (finds_end asked (unread r) k) k) h.control));
      una = e.una ∙ h.una;
      next = ap (λ n. r.una + n) e.sent ∙ h.next;
      highest = ap (λ n. r.una + n) e.highest ∙ h.highest;
      duplicates = e.duplicates ∙ h.duplicates;
      recover = e.recover ∙ h.recover;
      rcv = e.rcv ∙ h.rcv;
      counts = e.counts ∙ was_read c.counts r _ given h.counts (ap (min asked) waiting);
      send = ap (λ (b : Buffer ℕ). b.items) e.send ∙ h.send;
      receive = rest;
      read = omega (arith, h.read);
      phase = h.phase;
    }
