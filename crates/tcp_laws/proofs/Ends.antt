-- what the ends of a record, and of its directions, keep
use Rattle.std.proofs.Common.{◌≡◌, ℕ, ◌+◌, ◌-◌, ◌≤◌, ◌||◌, nat_lt, inl, List, [], ◌++◌, length, take, Bool, true, false, not, if◌then◌else◌, refl, sym, ap, subst, append-nil, length-append, arith}
use Rattle.std.proofs.lemmas.List.{length-take, length-drop}
use Rattle.sim_base.specs.declared.errno.Errno.{Errno}
use Rattle.sock_tcp.specs.declared.connection.effects.Shut.{Shut}
use Rattle.sock_tcp.specs.declared.connection.effects.Shut.TheVariants.{Reading, Writing, Both}
use Rattle.sock_tcp.specs.declared.segment.state.TcpState.{TcpState}
use Rattle.sock_tcp.specs.declared.segment.state.TcpState.TheVariants.{SynSent, SynReceived, Established, FinWait1, FinWait2, CloseWait, Closing, LastAck, TimeWait, Ended, Vanished}
use Rattle.sock_tcp.specs.segment.Refusal.{one_if}
use Rattle.sock_tcp.specs.segment.State.{phase_of, after_writing, is_over, is_opening, is_syn_sent}
use Rattle.sock_tcp.specs.segment.Control.{takes_bytes, writing_ended}
use Rattle.sock_tcp.specs.connection.Tcb.{Tcb, Turn, data_end, unread, changed, with_control}
use Rattle.sock_tcp.specs.connection.Begin.{begin}
use Rattle.sock_tcp.specs.connection.Ending.{ended, vanished, ends, vanishes}
use Rattle.sock_tcp.specs.connection.Arrival.{unless_over}
use Rattle.sock_tcp.specs.connection.Process.{room, bytes_taken, writes, ack_paid, pays_ack, flows_on, flows, ends_writing, ends_reading, shuts_end, shuts, socket_closed, closes_socket, closes, error_taken}
use Rattle.sock_tcp.specs.connection.Segment.{sends_ack, sends_reset}
use Rattle.tcp_laws.specs.Received.{FitsTaken}
use Rattle.sock_tcp.proofs.Connections.ProcessCalls.{phase_writing_ended, phase_longer}
use Rattle.tcp_laws.proofs.Tests.{by_test}
use Rattle.tcp_laws.proofs.Segments.{AreSent_grows}
use Rattle.tcp_laws.proofs.Holds.{Kept, kept_of, Holds}
use Rattle.tcp_laws.proofs.Sending.{holds_sends_ack, holds_sends_reset, holds_judged, holds_output}

-- the record is over
pub holds_ends : (f : Kept) (r0 : Tcb) (error : Errno) (t : Turn) → Holds f r0 t → Holds f r0 (ends error t)
unfolding ends ended
holds_ends f r0 error t h = record {
  order = record {
    unacknowledged = h.order.unacknowledged;
    next = h.order.next;
    last = h.order.last;
    phase = tt;
  };
  heard = record {
    nothing = h.heard.nothing;
    expected = h.heard.expected;
    stage = tt;
    within = h.heard.within;
    kept = h.heard.kept;
    seen = h.heard.seen;
  };
  grown = h.grown;
  sent = h.sent;
  flight = h.flight;
  given = h.given;
  fits = h.fits;
  buffered = h.buffered;
}

pub holds_vanishes : (f : Kept) (r0 : Tcb) (t : Turn) → Holds f r0 t → Holds f r0 (vanishes t)
unfolding vanishes vanished
holds_vanishes f r0 t h = record {
  order = record {
    unacknowledged = h.order.unacknowledged;
    next = h.order.next;
    last = h.order.last;
    phase = tt;
  };
  heard = record {
    nothing = h.heard.nothing;
    expected = h.heard.expected;
    stage = tt;
    within = h.heard.within;
    kept = h.heard.kept;
    seen = h.heard.seen;
  };
  grown = h.grown;
  sent = h.sent;
  flight = h.flight;
  given = h.given;
  fits = h.fits;
  buffered = h.buffered;
}

-- the end of writing
taken_after_writing : (state : TcpState) (taken : Bool) (rcv : ℕ) → is_opening state ≡ false → FitsTaken state taken rcv → FitsTaken (after_writing state) taken rcv
taken_after_writing SynSent taken rcv o h = cc
taken_after_writing SynReceived taken rcv o h = cc
taken_after_writing Established taken rcv o h = h
taken_after_writing FinWait1 taken rcv o h = h
taken_after_writing FinWait2 taken rcv o h = h
taken_after_writing CloseWait taken rcv o h = h
taken_after_writing Closing taken rcv o h = h
taken_after_writing LastAck taken rcv o h = h
taken_after_writing TimeWait taken rcv o h = h
taken_after_writing Ended taken rcv o h = tt
taken_after_writing Vanished taken rcv o h = tt

at_most_one : (wanted : Bool) → one_if wanted ≤ 1
at_most_one true = omega arith
at_most_one false = omega arith

holds_writing_ended : (f : Kept) (r0 : Tcb) (t : Turn) → is_opening t.tcb.control.state ≡ false → Holds f r0 t → Holds f r0 (changed (with_control writing_ended) t)
unfolding writing_ended
holds_writing_ended f r0 t o h =
    let r = t.tcb in
    let one = at_most_one r.control.fin_wanted in
    record {
      order = record {
        unacknowledged = h.order.unacknowledged;
        next = h.order.next;
        last = omega (arith, h.order.last, one);
        phase = phase_writing_ended r.control.state r.control.fin_wanted r.una r.nxt r.highest (data_end r) o h.order.unacknowledged h.order.phase;
      };
      heard = record {
        nothing = h.heard.nothing;
        expected = h.heard.expected;
        stage = taken_after_writing r.control.state r.control.fin_taken r.rcv o h.heard.stage;
        within = h.heard.within;
        kept = h.heard.kept;
        seen = h.heard.seen;
      };
      grown = record {
        local = h.grown.local;
        peer = h.grown.peer;
        iss = h.grown.iss;
        more = h.grown.more;
        written = h.grown.written;
        ended = λ e. (refl, (h.grown.ended e).1);
      };
      sent = AreSent_grows r.control.local r.control.peer r.iss r.written r.written [] r.control.fin_wanted true t.sent (sym (append-nil r.written)) (λ e. (refl, refl)) h.sent;
      flight = h.flight;
      given = h.given;
      fits = h.fits;
      buffered = h.buffered;
    }

pub holds_ends_writing : (f : Kept) (r0 : Tcb) (t : Turn) → Holds f r0 t → Holds f r0 (ends_writing t)
unfolding ends_writing
holds_ends_writing f r0 t h =
    by_test (Holds f r0) (is_opening t.tcb.control.state) _ _
    (λ o. h)
    (λ o. holds_output f r0 (changed (with_control writing_ended) t) (holds_writing_ended f r0 t o h))

-- the end of reading
pub holds_ends_reading : (f : Kept) (r0 : Tcb) (t : Turn) → Holds f r0 t → Holds f r0 (ends_reading t)
unfolding ends_reading
holds_ends_reading f r0 t h = record {
  order = h.order;
  heard = record {
    nothing = h.heard.nothing;
    expected = h.heard.expected;
    stage = h.heard.stage;
    within = h.heard.within;
    kept = λ e. absurd (cc);
    seen = h.heard.seen;
  };
  grown = h.grown;
  sent = h.sent;
  flight = h.flight;
  given = h.given;
  fits = h.fits;
  buffered = h.buffered;
}

holds_shuts_end : (f : Kept) (r0 : Tcb) (end : Shut) (t : Turn) → Holds f r0 t → Holds f r0 (shuts_end end t)
holds_shuts_end f r0 Reading t h = holds_ends_reading f r0 t h
holds_shuts_end f r0 Writing t h = holds_ends_writing f r0 t h
holds_shuts_end f r0 Both t h = holds_ends_writing f r0 (ends_reading t) (holds_ends_reading f r0 t h)

pub holds_shuts : (f : Kept) (r0 : Tcb) (end : Shut) (t : Turn) → Holds f r0 t → Holds f r0 (shuts end t)
unfolding shuts
holds_shuts f r0 end t h = holds_judged f r0 (shuts_end end t) (holds_shuts_end f r0 end t h)

-- close
holds_marked : (f : Kept) (r0 : Tcb) (t : Turn) → Holds f r0 t → Holds f r0 (changed (with_control socket_closed) t)
holds_marked f r0 t h = record { order = h.order; heard = h.heard; grown = h.grown; sent = h.sent; flight = h.flight; given = h.given; fits = h.fits; buffered = h.buffered }

holds_closes_socket : (f : Kept) (r0 : Tcb) (t : Turn) → Holds f r0 t → Holds f r0 (closes_socket t)
unfolding closes_socket
holds_closes_socket f r0 t h =
    by_test (Holds f r0) (is_syn_sent t.tcb.control.state || is_over t.tcb.control.state) _ _
    (λ e. holds_vanishes f r0 t h)
    (λ e.
    by_test (Holds f r0) (nat_lt 0 (unread t.tcb)) _ _
    (λ k. holds_vanishes f r0 (sends_reset t) (holds_sends_reset f r0 t h))
    (λ k. holds_ends_writing f r0 t h))

pub holds_closes : (f : Kept) (r0 : Tcb) (t : Turn) → Holds f r0 t → Holds f r0 (closes t)
unfolding closes
holds_closes f r0 t h =
    holds_judged f r0 (closes_socket (changed (with_control socket_closed) t)) (holds_closes_socket f r0 (changed (with_control socket_closed) t) (holds_marked f r0 t h))

-- what reads and writes bring about
holds_paid : (f : Kept) (r0 : Tcb) (t : Turn) → Holds f r0 t → Holds f r0 (changed (with_control ack_paid) t)
holds_paid f r0 t h = record { order = h.order; heard = h.heard; grown = h.grown; sent = h.sent; flight = h.flight; given = h.given; fits = h.fits; buffered = h.buffered }

holds_pays_ack : (f : Kept) (r0 : Tcb) (t : Turn) → Holds f r0 t → Holds f r0 (pays_ack t)
unfolding pays_ack
holds_pays_ack f r0 t h =
    by_test (Holds f r0) t.tcb.control.owes_ack _ _ (λ e. holds_paid f r0 (sends_ack t) (holds_sends_ack f r0 t h)) (λ e. h)

pub holds_unless_over : (f : Kept) (r0 : Tcb) (act : Turn → Turn) (t : Turn) → (Holds f r0 t → Holds f r0 (act t)) → Holds f r0 t → Holds f r0 (unless_over act t)
unfolding unless_over
holds_unless_over f r0 act t does h =
    by_test (Holds f r0) (is_over t.tcb.control.state) _ _ (λ e. h) (λ e. does h)

pub holds_flows : (f : Kept) (r0 : Tcb) (t : Turn) → Holds f r0 t → Holds f r0 (flows t)
unfolding flows
holds_flows f r0 t h =
    holds_judged f r0 (unless_over flows_on t)
    (holds_unless_over f r0 flows_on t (λ k. holds_output f r0 (pays_ack t) (holds_pays_ack f r0 t k)) h)

-- an error that is taken
pub holds_error_taken : (f : Kept) (r0 : Tcb) (t : Turn) → Holds f r0 t → Holds f r0 (changed error_taken t)
unfolding error_taken
holds_error_taken f r0 t h = record { order = h.order; heard = h.heard; grown = h.grown; sent = h.sent; flight = h.flight; given = h.given; fits = h.fits; buffered = h.buffered }

-- a write, where a call begins
none_taken : (bytes : List ℕ) (r : Tcb) → r.control.fin_wanted ≡ true → bytes_taken bytes r ≡ []
unfolding bytes_taken
none_taken bytes r e =
    let closed : takes_bytes r.control ≡ false = ap (λ b. not (b || is_over r.control.state)) e in
    ap (λ b. if b then take (room r) bytes else []) closed

buffer_kept : (una have room more : ℕ) → have ≤ una - 1 + 65535 → room ≡ 65535 - (have - (una - 1)) → more ≤ room → have + more ≤ una - 1 + 65535
buffer_kept una have room more h e b = omega arith

at_most_room : (bytes : List ℕ) (r : Tcb) → length (bytes_taken bytes r) ≤ room r
unfolding bytes_taken
at_most_room bytes r =
    by_test (λ (xs : List ℕ). length xs ≤ room r) (takes_bytes r.control) (take (room r) bytes) []
    (λ e. omega (arith, length-take (room r) bytes))
    (λ e. omega arith)

pub holds_writes : (bytes : List ℕ) (r : Tcb) → Holds (kept_of r) r (begin r) → Holds (kept_of r) r (changed (writes bytes) (begin r))
unfolding writes
holds_writes bytes r h =
    let more = bytes_taken bytes r in
    let longer : data_end r ≤ 1 + length (r.written ++ more) = omega (arith, length-append r.written more) in
    record {
      order = record {
        unacknowledged = h.order.unacknowledged;
        next = h.order.next;
        last = omega (arith, h.order.last, longer);
        phase = phase_longer (phase_of r.control.state) r.control.fin_wanted r.una r.nxt r.highest (data_end r) (1 + length (r.written ++ more)) longer h.order.phase;
      };
      heard = h.heard;
      grown = record {
        local = refl;
        peer = refl;
        iss = refl;
        more = more;
        written = refl;
        ended = λ e. (e, none_taken bytes r e);
      };
      sent = tt;
      flight = refl;
      given = refl;
      fits = inl tt;
      buffered = subst (λ (n : ℕ). n ≤ r.una - 1 + 65535) (sym (length-append r.written more))
          (buffer_kept r.una (length r.written) (room r) (length more) h.buffered (ap (λ n. 65535 - n) (length-drop (r.una - 1) r.written)) (at_most_room bytes r));
    }
