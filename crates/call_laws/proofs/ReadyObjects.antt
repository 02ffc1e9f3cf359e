-- What readiness tells of an object, and what a call on it waits for.
use Rattle.std.proofs.Common.{◌≡◌, ℕ, zero, suc, ◌+◌, ◌-◌, ◌==◌, ◌<◌, ◌||◌, ◌&&◌, Bool, true, false, not, List, [], ◌∷◌, All, length, Option, Some, None, is_some, is_none, Result, Ok, Err, refl, sym, ap, subst, ◌∙◌, nat_lt, bit_or, if◌then◌else◌, slice_get, arith}
use Rattle.std.proofs.lemmas.Bool.Decides.{nat_tests}
use Rattle.std.specs.Prelude.{IsSome}
use Rattle.sim_base.specs.declared.errno.Errno.{Errno}
use Rattle.sim_base.specs.declared.errno.Errno.TheVariants.{Ebadf, Einval, Enotconn}
use Rattle.sim_base.specs.declared.time.Time.{Time}
use Rattle.sim_base.specs.Refusals.{◌>>=◌, ◌>>◌, refuse_if, or_refuse}
use Rattle.host_fds.specs.declared.epoll.Watch.{Watch}
use Rattle.host_fds.specs.Pipe.{PipeState, bit_of, room}
use Rattle.host_fds.specs.Eventfd as eventfd
use Rattle.host_fds.specs.declared.eventfd.Eventfd.{Eventfd}
use Rattle.host_fds.specs.declared.pipe.End.TheVariants.{Reading, Writing}
use Rattle.host_files.specs.Epolls.{epoll_at}
use Rattle.sock_udp.specs.Socket.{UdpState}
use Rattle.sock_tcp.specs.declared.segment.state.TcpState.{TcpState}
use Rattle.sock_tcp.specs.declared.segment.state.TcpState.TheVariants.{SynSent, SynReceived, Established, FinWait1, FinWait2, CloseWait, Closing, LastAck, TimeWait, Ended, Vanished}
use Rattle.sock_tcp.specs.segment.State.{is_over, is_syn_sent, is_syn_received, is_opening}
use Rattle.sock_tcp.specs.segment.Control.{takes_bytes}
use Rattle.sock_tcp.specs.connection.Tcb.{Tcb, unread}
use Rattle.sock_tcp.specs.connection.Process as process
use Rattle.sock_tcp.specs.connection.Ready.{bit_if, can_read, can_write, readiness}
use Rattle.sock_tcp.specs.listener.Listen.{Listen, accepted_at, accepted_from, accepts}
use Rattle.host_wants.specs.declared.error.Refusal.{Refusal}
use Rattle.host_wants.specs.declared.error.Refusal.TheVariants as refusal
use Rattle.host_wants.specs.Refusals.{stop_kept, waits_if, broken_pipe}
use Rattle.host_sockets.specs.Sockets.{tcb_in}
use Rattle.host_sockets.specs.TcpSocket.{TcpSocket, connected, kept_error}
use Rattle.host_sockets.specs.Accepting.{accepts_in, accepts_of}
use Rattle.host_sockets.specs.Connecting.{connect_ends, connect_error}
use Rattle.host_sockets.specs.Moving.{may_recv, would_read}
use Rattle.udp_slots.specs.Slots.{udp_ready_in, recv_asked_in}
use Rattle.host_sockets.specs.Ready.{ready_of, ready_in}
use Rattle.host_calls.specs.Epoll.{has_due, waits_for}
use Rattle.file_calls.specs.Eventfd.{number_fits}
use Rattle.file_calls.specs.Files.{is_drained}
use Rattle.file_calls.specs.Flags.{has}
use Rattle.host_calls.specs.Parts.{Scene}
use Rattle.call_parts.specs.Polling.{has_come}
use Rattle.call_parts.specs.Ready.{pipe_ready, eventfd_ready}
use Rattle.host_calls.specs.Ready.{epoll_ready, some_due}
use Rattle.file_calls.specs.Scene.{kept_answers}
use Rattle.call_laws.specs.Readiness.{room_in, has_no_writer, has_no_reader, record_is_over, is_connecting, IsOwnRecord, AreWhole, IsWholeSocket}

-- what a step that may wait tells of a test: where the test holds it doesn't wait. An error number tells nothing
abbrev pub Tells : {A : Type 0} → Result A Refusal → Bool → Type 0
Tells (Ok a) holds = holds ≡ true
Tells (Err (refusal.Wait until)) holds = holds ≡ false
Tells (Err (refusal.Kept errno)) holds = holds ≡ true
Tells (Err (refusal.End state)) holds = holds ≡ true
Tells (Err (refusal.Errno errno)) holds = Unit {0}

pub tells_if : (waits holds : Bool) → not waits ≡ holds → Tells (waits_if waits) holds
tells_if true holds e = sym e
tells_if false holds e = sym e

pub tells_kept : (q : Result (Unit {0}) Refusal) (holds : Bool) → Tells q holds → Tells (kept_answers q) holds
tells_kept (Ok u) holds h = h
tells_kept (Err (refusal.Wait until)) holds h = h
tells_kept (Err (refusal.Kept errno)) holds h = h
tells_kept (Err (refusal.End state)) holds h = h
tells_kept (Err (refusal.Errno errno)) holds h = tt

-- pipes
not_zero : (n : ℕ) → not (n == 0) ≡ nat_lt 0 n
not_zero zero = refl
not_zero (suc n) = grind (arith, nat_tests)

in_pipe : (bytes writer : Bool) → has 1 (bit_of 1 bytes + bit_of 16 (not writer)) ≡ bytes
in_pipe true true = refl
in_pipe true false = refl
in_pipe false true = refl
in_pipe false false = refl

out_pipe : (space reader : Bool) → has 4 (bit_of 4 space + bit_of 8 (not reader)) ≡ space
out_pipe true true = refl
out_pipe true false = refl
out_pipe false true = refl
out_pipe false false = refl

drained : (empty writer : Bool) → not (empty && writer) ≡ (not empty || not writer)
drained true true = refl
drained true false = refl
drained false true = refl
drained false false = refl

pub read_end_tells : (o : Option PipeState) → Tells (or_refuse o (refusal.Errno Ebadf) >>= λ p. waits_if (is_drained p)) (has 1 (pipe_ready o Reading) || has_no_writer o)
read_end_tells None = tt
read_end_tells (Some p) =
    tells_if (is_drained p) _ (drained (length p.bytes == 0) p.has_writer
    ∙ ap (λ (b : Bool). b || not p.has_writer) (not_zero (length p.bytes) ∙ sym (in_pipe (nat_lt 0 (length p.bytes)) p.has_writer)))

is_full : (n : ℕ) → not (65536 - n == 0) ≡ nat_lt n 65536
is_full n = grind (arith, nat_tests)

crowded : (some full : Bool) → not (some && full) ≡ (not some || (not full || false))
crowded true true = refl
crowded true false = refl
crowded false true = refl
crowded false false = refl

let_go : (a b : Bool) → (a || (b || true)) ≡ true
let_go true true = refl
let_go true false = refl
let_go false true = refl
let_go false false = refl

write_pipe : (some full reader : Bool) → Tells (refuse_if (not reader) (broken_pipe false) >> waits_if (some && full)) (not some || (not full || not reader))
write_pipe some full false = let_go (not some) (not full)
write_pipe some full true = tells_if (some && full) _ (crowded some full)

pub write_end_tells : (o : Option PipeState) (some : Bool) → Tells (or_refuse o (refusal.Errno Ebadf) >>= λ p. refuse_if (not p.has_reader) (broken_pipe false) >> waits_if (some && (room p == 0)))
    (not some || (has 4 (pipe_ready o Writing) || has_no_reader o))
write_end_tells None some = tt
write_end_tells (Some p) some =
    let same : not (room p == 0) ≡ has 4 (pipe_ready (Some p) Writing) = is_full (length p.bytes) ∙ sym (out_pipe (nat_lt (length p.bytes) 65536) p.has_reader) in
    subst (λ (b : Bool). Tells (refuse_if (not p.has_reader) (broken_pipe false) >> waits_if (some && (room p == 0))) (not some || (b || not p.has_reader))) same
    (write_pipe some (room p == 0) p.has_reader)

-- timers
in_timer : (some : Bool) → has 1 (bit_if some 1) ≡ some
in_timer true = refl
in_timer false = refl

or_nothing : (b : Bool) → b ≡ (b || false)
or_nothing true = refl
or_nothing false = refl

pub timer_tells : (count : ℕ) → Tells (waits_if (count == 0)) (has 1 (bit_if (nat_lt 0 count) 1) || false)
timer_tells count = tells_if (count == 0) _ (not_zero count ∙ sym (in_timer (nat_lt 0 count)) ∙ or_nothing (has 1 (bit_if (nat_lt 0 count) 1)))

-- eventfds
in_eventfd : (some space : Bool) → has 1 (bit_of 1 some + bit_of 4 space) ≡ some
in_eventfd true true = refl
in_eventfd true false = refl
in_eventfd false true = refl
in_eventfd false false = refl

pub eventfd_read_tells : (o : Option Eventfd) → Tells (or_refuse o (refusal.Errno Ebadf) >>= λ e. waits_if (e.count == 0)) (has 1 (eventfd_ready o) || false)
eventfd_read_tells None = tt
eventfd_read_tells (Some e) =
    tells_if (e.count == 0) _ (not_zero e.count ∙ sym (in_eventfd (nat_lt 0 e.count) (nat_lt e.count eventfd.most)) ∙ or_nothing (has 1 (eventfd_ready (Some e))))

-- epolls
due_or_come : (due come : Bool) (deadline : Option Time) → Tells (refuse_if (not due && not come) (refusal.Wait deadline)) (due || come)
due_or_come true come deadline = refl
due_or_come false true deadline = refl
due_or_come false false deadline = refl

has_due_is : (now : Time) (s : Scene) (slot : Option (List Watch)) → has_due now s slot ≡ has 1 (epoll_ready now s slot)
has_due_is now s None = refl
has_due_is now s (Some entries) = sym (in_timer (some_due now s entries))

pub epoll_tells : (now : Time) (deadline : Option Time) (k : ℕ) (s : Scene)
    → Tells (waits_for now deadline k s) (has 1 (epoll_ready now s (epoll_at k s.task.epolls)) || has_come now deadline)
epoll_tells now deadline k s =
    subst (λ (b : Bool). Tells (waits_for now deadline k s) (b || has_come now deadline)) (has_due_is now s (epoll_at k s.task.epolls))
    (due_or_come (has_due now s (epoll_at k s.task.epolls)) (has_come now deadline) deadline)

not_not : (b : Bool) → not (not b) ≡ b
not_not true = refl
not_not false = refl

fits_in : (number : ℕ) (slot : Option Eventfd) → Tells (or_refuse slot (refusal.Errno Ebadf) >>= λ e. waits_if (not (eventfd.has_room number e))) (room_in number slot)
fits_in number None = tt
fits_in number (Some e) = tells_if (not (eventfd.has_room number e)) _ (not_not (eventfd.has_room number e))

past_none : (none : Bool) (q : Result (Unit {0}) Refusal) (holds : Bool) → Tells q holds → Tells (refuse_if none (refusal.Errno Einval) >> q) holds
past_none true q holds h = tt
past_none false q holds h = h

pub fits_tells : (number : ℕ) (slot : Option Eventfd) → Tells (number_fits number slot) (room_in number slot)
fits_tells number slot = past_none _ _ (room_in number slot) (fits_in number slot)

-- UDP sockets
in_udp : (some : Bool) → not (not some) ≡ (has 1 (if some then 5 else 4) || false)
in_udp true = refl
in_udp false = refl

out_udp : (some : Bool) → has 4 (if some then 5 else 4) ≡ true
out_udp true = refl
out_udp false = refl

pub recv_udp_tells : (o : Option UdpState) → Tells (recv_asked_in o) (has 1 (udp_ready_in o) || false)
recv_udp_tells None = tt
recv_udp_tells (Some u) = tells_if (not (nat_lt 0 (length u.waiting))) _ (in_udp (nat_lt 0 (length u.waiting)))

pub send_udp_holds : (o : Option UdpState) → IsSome o → has 4 (udp_ready_in o) ≡ true
send_udp_holds None h = let no : ⊥ = cc in absurd no
send_udp_holds (Some u) h = out_udp (nat_lt 0 (length u.waiting))

-- connections: the bits of their readiness
in_bits : (a b c d : Bool) → has 1 (bit_or (bit_or (bit_if a 1) (bit_if b 4)) (bit_or (bit_if c 8) (bit_if d 16))) ≡ a
in_bits true true true true = refl
in_bits true true true false = refl
in_bits true true false true = refl
in_bits true true false false = refl
in_bits true false true true = refl
in_bits true false true false = refl
in_bits true false false true = refl
in_bits true false false false = refl
in_bits false true true true = refl
in_bits false true true false = refl
in_bits false true false true = refl
in_bits false true false false = refl
in_bits false false true true = refl
in_bits false false true false = refl
in_bits false false false true = refl
in_bits false false false false = refl

out_bits : (a b c d : Bool) → has 4 (bit_or (bit_or (bit_if a 1) (bit_if b 4)) (bit_or (bit_if c 8) (bit_if d 16))) ≡ b
out_bits true true true true = refl
out_bits true true true false = refl
out_bits true true false true = refl
out_bits true true false false = refl
out_bits true false true true = refl
out_bits true false true false = refl
out_bits true false false true = refl
out_bits true false false false = refl
out_bits false true true true = refl
out_bits false true true false = refl
out_bits false true false true = refl
out_bits false true false false = refl
out_bits false false true true = refl
out_bits false false true false = refl
out_bits false false false true = refl
out_bits false false false false = refl

in_open : (r : Tcb) → is_opening r.control.state ≡ false → has 1 (readiness r) ≡ can_read r
unfolding readiness
in_open r e = rw e (in_bits _ _ _ _)

out_open : (r : Tcb) → is_opening r.control.state ≡ false → has 4 (readiness r) ≡ can_write r
unfolding readiness
out_open r e = rw e (out_bits _ _ _ _)

not_opening : (state : TcpState) → is_syn_sent state ≡ false → is_syn_received state ≡ false → is_opening state ≡ false
not_opening SynSent e f = cc
not_opening SynReceived e f = cc
not_opening Established e f = refl
not_opening FinWait1 e f = refl
not_opening FinWait2 e f = refl
not_opening CloseWait e f = refl
not_opening Closing e f = refl
not_opening LastAck e f = refl
not_opening TimeWait e f = refl
not_opening Ended e f = refl
not_opening Vanished e f = refl

-- whatever is kept, a record that is open or keeps an error is ready as it says
is_not : (b : Bool) → (b ≡ true → ⊥) → b ≡ false
is_not true h = absurd (h refl)
is_not false h = refl

keeps_open : (r : Tcb) (errno : Errno) → IsOwnRecord r → r.control.error ≡ Some errno → is_opening r.control.state ≡ false
keeps_open r errno own e = not_opening r.control.state (is_not (is_syn_sent r.control.state) (λ sent. let none : r.control.error ≡ None = own.no_error sent in cc)) own.is_own

-- reading
recv_holds : (a f e o : Bool) → ((a || ((f || e) || true)) || o) ≡ true
recv_holds true true true true = refl
recv_holds true true true false = refl
recv_holds true true false true = refl
recv_holds true true false false = refl
recv_holds true false true true = refl
recv_holds true false true false = refl
recv_holds true false false true = refl
recv_holds true false false false = refl
recv_holds false true true true = refl
recv_holds false true true false = refl
recv_holds false true false true = refl
recv_holds false true false false = refl
recv_holds false false true true = refl
recv_holds false false true false = refl
recv_holds false false false true = refl
recv_holds false false false false = refl

recv_same : (a f e o : Bool) → not (not (a || (f || (e || o)))) ≡ ((a || ((f || e) || false)) || o)
recv_same true true true true = refl
recv_same true true true false = refl
recv_same true true false true = refl
recv_same true true false false = refl
recv_same true false true true = refl
recv_same true false true false = refl
recv_same true false false true = refl
recv_same true false false false = refl
recv_same false true true true = refl
recv_same false true true false = refl
recv_same false true false true = refl
recv_same false true false false = refl
recv_same false false true true = refl
recv_same false false true false = refl
recv_same false false false true = refl
recv_same false false false false = refl

recv_by : (r : Tcb) (error : Option Errno) (sent : Bool) → IsOwnRecord r → r.control.error ≡ error → is_syn_sent r.control.state ≡ sent
    → Tells (stop_kept error >> (or_refuse (if sent then None else Some r) (refusal.Errno Enotconn) >>= λ x. waits_if (not (would_read x)))) (has 1 (readiness r) || is_over r.control.state)
recv_by r (Some errno) sent own e f =
    ap (λ (b : Bool). b || is_over r.control.state) (in_open r (keeps_open r errno own e))
    ∙ ap (λ (x : Option Errno). (nat_lt 0 (unread r) || ((r.control.fin_taken || r.control.reading_ended) || is_some x)) || is_over r.control.state) e
    ∙ recv_holds (nat_lt 0 (unread r)) r.control.fin_taken r.control.reading_ended (is_over r.control.state)
recv_by r None true own e f = tt
recv_by r None false own e f =
    tells_if (not (would_read r)) _ (recv_same (nat_lt 0 (unread r)) r.control.fin_taken r.control.reading_ended (is_over r.control.state)
    ∙ ap (λ (x : Option Errno). (nat_lt 0 (unread r) || ((r.control.fin_taken || r.control.reading_ended) || is_some x)) || is_over r.control.state) (sym e)
    ∙ ap (λ (b : Bool). b || is_over r.control.state) (sym (in_open r (not_opening r.control.state f own.is_own))))

recv_of : (tcb : Option Tcb) (listen : Option Listen) → AreWhole tcb listen → Tells (may_recv tcb) (has 1 (ready_of tcb listen) || record_is_over tcb)
recv_of None None whole = tt
recv_of None (Some l) whole = tt
recv_of (Some r) None own = recv_by r r.control.error (is_syn_sent r.control.state) own refl refl
recv_of (Some r) (Some l) whole = absurd whole

pub recv_tells : (o : Option TcpSocket) → IsWholeSocket o → Tells (or_refuse o (refusal.Errno Ebadf) >>= λ s. may_recv s.tcb) (has 1 (ready_in o) || record_is_over (tcb_in o))
recv_tells None whole = absurd whole
recv_tells (Some s) whole = recv_of s.tcb s.listen whole

-- writing
send_holds : (n m f o : Bool) → (not n || ((m || (f || true)) || o)) ≡ true
send_holds true true true true = refl
send_holds true true true false = refl
send_holds true true false true = refl
send_holds true true false false = refl
send_holds true false true true = refl
send_holds true false true false = refl
send_holds true false false true = refl
send_holds true false false false = refl
send_holds false true true true = refl
send_holds false true true false = refl
send_holds false true false true = refl
send_holds false true false false = refl
send_holds false false true true = refl
send_holds false false true false = refl
send_holds false false false true = refl
send_holds false false false false = refl

send_ended : (n m f o : Bool) → (f || o) ≡ true → (not n || ((m || (f || false)) || o)) ≡ true
send_ended true true true true e = refl
send_ended true true true false e = refl
send_ended true true false true e = refl
send_ended true true false false e = cc
send_ended true false true true e = refl
send_ended true false true false e = refl
send_ended true false false true e = refl
send_ended true false false false e = cc
send_ended false true true true e = refl
send_ended false true true false e = refl
send_ended false true false true e = refl
send_ended false true false false e = cc
send_ended false false true true e = refl
send_ended false false true false e = refl
send_ended false false false true e = refl
send_ended false false false false e = cc

send_same : (n m f o : Bool) → (f || o) ≡ false → not (n && m) ≡ (not n || ((not m || (f || false)) || o))
send_same true true true true e = cc
send_same true true true false e = cc
send_same true true false true e = cc
send_same true true false false e = refl
send_same true false true true e = cc
send_same true false true false e = cc
send_same true false false true e = cc
send_same true false false false e = refl
send_same false true true true e = cc
send_same false true true false e = cc
send_same false true false true e = cc
send_same false true false false e = refl
send_same false false true true e = cc
send_same false false true false e = cc
send_same false false false true e = cc
send_same false false false false e = refl

broken : (quiet : Bool) (holds : Bool) → holds ≡ true → Tells {A = Unit {0}} (Err (broken_pipe quiet)) holds
broken true holds h = tt
broken false holds h = h

space : (n : ℕ) → nat_lt 0 n ≡ not (n == 0)
space zero = refl
space (suc n) = grind (arith, nat_tests)

send_open : (r : Tcb) (some quiet ended : Bool) (holds : Bool) → (r.control.fin_wanted || is_over r.control.state) ≡ ended → (ended ≡ true → holds ≡ true)
    → (ended ≡ false → not (some && (process.room r == 0)) ≡ holds) → Tells (refuse_if (not (not ended)) (broken_pipe quiet) >> waits_if (some && (process.room r == 0))) holds
send_open r some quiet true holds e f g = broken quiet holds (f refl)
send_open r some quiet false holds e f g = tells_if (some && (process.room r == 0)) holds (g refl)

abbrev pub holds_out : Bool → Tcb → Bool
holds_out some r = not some || (has 4 (readiness r) || is_over r.control.state)

out_as : (r : Tcb) (some : Bool) → is_opening r.control.state ≡ false
    → holds_out some r ≡ (not some || ((nat_lt 0 (process.room r) || (r.control.fin_wanted || is_some r.control.error)) || is_over r.control.state))
out_as r some e = ap (λ (b : Bool). not some || (b || is_over r.control.state)) (out_open r e)

send_by : (r : Tcb) (some quiet : Bool) (error : Option Errno) (sent : Bool) → IsOwnRecord r → r.control.error ≡ error → is_syn_sent r.control.state ≡ sent
    → Tells (stop_kept error >> (or_refuse (if sent then None else Some r) (refusal.Errno Enotconn) >>= λ x. refuse_if (not (takes_bytes x.control)) (broken_pipe quiet) >> waits_if (some && (process.room x == 0))))
    (holds_out some r)
send_by r some quiet (Some errno) sent own e f =
    out_as r some (keeps_open r errno own e)
    ∙ ap (λ (x : Option Errno). not some || ((nat_lt 0 (process.room r) || (r.control.fin_wanted || is_some x)) || is_over r.control.state)) e
    ∙ send_holds some (nat_lt 0 (process.room r)) r.control.fin_wanted (is_over r.control.state)
send_by r some quiet None true own e f = tt
send_by r some quiet None false own e f =
    let known : holds_out some r ≡ (not some || ((nat_lt 0 (process.room r) || (r.control.fin_wanted || false)) || is_over r.control.state)) =
    out_as r some (not_opening r.control.state f own.is_own)
    ∙ ap (λ (x : Option Errno). not some || ((nat_lt 0 (process.room r) || (r.control.fin_wanted || is_some x)) || is_over r.control.state)) e in
    send_open r some quiet (r.control.fin_wanted || is_over r.control.state) (holds_out some r) refl
    (λ ended. known ∙ send_ended some (nat_lt 0 (process.room r)) r.control.fin_wanted (is_over r.control.state) ended)
    (λ ended. send_same some (process.room r == 0) r.control.fin_wanted (is_over r.control.state) ended
    ∙ ap (λ (b : Bool). not some || ((b || (r.control.fin_wanted || false)) || is_over r.control.state)) (sym (space (process.room r))) ∙ sym known)

abbrev pub may_write_by : Bool → Bool → Option Tcb → Result (Unit {0}) Refusal
may_write_by some quiet tcb =
    stop_kept (kept_error tcb) >> (or_refuse (connected tcb) (refusal.Errno Enotconn) >>= λ r. refuse_if (not (takes_bytes r.control)) (broken_pipe quiet) >> waits_if (some && (process.room r == 0)))

send_of : (tcb : Option Tcb) (listen : Option Listen) (some quiet : Bool) → AreWhole tcb listen
    → Tells (may_write_by some quiet tcb) (not some || (has 4 (ready_of tcb listen) || record_is_over tcb))
send_of None None some quiet whole = tt
send_of None (Some l) some quiet whole = tt
send_of (Some r) None some quiet own = send_by r some quiet r.control.error (is_syn_sent r.control.state) own refl refl
send_of (Some r) (Some l) some quiet whole = absurd whole

-- accepting
record_there : (records : List Tcb) (place : ℕ) → place < length records → is_none (slice_get records place) ≡ false
record_there [] place b = absurd (omega arith)
record_there (r ∷ records) zero b = refl
record_there (r ∷ records) (suc place) b = record_there records place (omega arith)

accepted_there : (place : ℕ) (o : Option Tcb) (l : Listen) → is_none o ≡ false → not (is_none (accepted_at place o l)) ≡ true
accepted_there place None l e = cc
accepted_there place (Some r) l e = refl

positive : (n : ℕ) → true ≡ nat_lt 0 (suc n)
positive n = grind (arith, nat_tests)

queue_from : (l : Listen) (queue : List ℕ) → All (λ place. place < length l.records) queue → not (is_none (accepted_from queue l)) ≡ nat_lt 0 (length queue)
queue_from l [] all = refl
queue_from l (place ∷ behind) all =
    accepted_there place (slice_get l.records place) l (record_there l.records place (all 0 0 (omega arith))) ∙ positive (length behind)

queue_waits : (l : Listen) → All (λ place. place < length l.records) l.accept_queue → not (is_none (accepts l)) ≡ nat_lt 0 (length l.accept_queue)
unfolding accepts
queue_waits l all = queue_from l l.accept_queue all

accept_of : (tcb : Option Tcb) (listen : Option Listen) → AreWhole tcb listen
    → Tells (refuse_if (is_none listen) (refusal.Errno Einval) >> waits_if (is_none (accepts_in listen))) (has 1 (ready_of tcb listen))
accept_of None None whole = tt
accept_of (Some r) None whole = tt
accept_of None (Some l) whole = tells_if (is_none (accepts l)) _ (queue_waits l whole ∙ sym (in_timer (nat_lt 0 (length l.accept_queue))))
accept_of (Some r) (Some l) whole = absurd whole

pub accept_tells : (o : Option TcpSocket) → IsWholeSocket o
    → Tells ((or_refuse o (refusal.Errno Ebadf) >>= λ s. refuse_if (is_none s.listen) (refusal.Errno Einval)) >> waits_if (is_none (accepts_of o))) (has 1 (ready_in o))
accept_tells None whole = absurd whole
accept_tells (Some s) whole = accept_of s.tcb s.listen whole

pub send_tells : (o : Option TcpSocket) (some quiet : Bool) → IsWholeSocket o
    → Tells (or_refuse o (refusal.Errno Ebadf) >>= λ s. may_write_by some quiet s.tcb) (not some || (has 4 (ready_in o) || record_is_over (tcb_in o)))
send_tells None some quiet whole = absurd whole
send_tells (Some s) some quiet whole = send_of s.tcb s.listen some quiet whole

-- connecting
connect_by : (sent : Bool) (error : Option Errno) → Tells (waits_if sent >> stop_kept error) (not sent)
connect_by true error = refl
connect_by false None = refl
connect_by false (Some errno) = refl

connect_of : (tcb : Option Tcb) → Tells (connect_ends tcb) (not (is_connecting tcb))
connect_of None = tt
connect_of (Some r) = connect_by (is_syn_sent r.control.state) (connect_error r)

pub connect_tells : (o : Option TcpSocket) → Tells (or_refuse o (refusal.Errno Ebadf) >>= λ s. connect_ends s.tcb) (not (is_connecting (tcb_in o)))
connect_tells None = tt
connect_tells (Some s) = connect_of s.tcb
