-- A call that a process waits in answers where readiness says so.
use Rattle.std.proofs.Common.{◌≡◌, ℕ, ◌*◌, ◌==◌, ◌||◌, Bool, true, false, not, List, Option, Some, None, is_some, Result, Ok, Err, refl, sym, ap, subst, ◌∙◌, nat_lt, min, if◌then◌else◌, arith}
use Rattle.std.proofs.lemmas.Bool.Decides.{nat_tests}
use Rattle.sim_base.specs.declared.address.Addr.{Addr}
use Rattle.sim_base.specs.declared.address.Ip.{Ip}
use Rattle.sim_base.specs.declared.errno.Errno as errno_type
use Rattle.sim_base.specs.declared.errno.Errno.TheVariants.{Efault, Einval}
use Rattle.sim_base.specs.declared.time.Time.{Time}
use Rattle.sim_base.specs.Refusals.{◌>>=◌, ◌>>◌, refuse_if, or_refuse}
use Rattle.guest_args.specs.Span.{counted, can_read, can_write}
use Rattle.host_files.specs.declared.file.Object.{Object}
use Rattle.host_files.specs.declared.file.Object.TheVariants as kind
use Rattle.host_fds.specs.declared.eventfd.Eventfd.{Eventfd}
use Rattle.host_files.specs.Files.{pipe_at, timer_count, eventfd_at}
use Rattle.host_wants.specs.declared.error.Refusal.{Refusal}
use Rattle.host_wants.specs.declared.error.Refusal.TheVariants as refusal
use Rattle.host_sockets.specs.Sockets.{SocketsRecord, tcp_at}
use Rattle.host_sockets.specs.Accepting.{accept_ready}
use Rattle.host_sockets.specs.Connecting.{connect_waited}
use Rattle.host_sockets.specs.Moving.{send_asked, reach_given}
use Rattle.host_sockets.specs.Udp.{udp_in}
use Rattle.call_parts.specs.declared.call.Call.{Call}
use Rattle.call_parts.specs.declared.call.WaitingCall.{WaitingCall}
use Rattle.call_parts.specs.declared.call.WaitingCall.TheVariants as waiting
use Rattle.host_calls.specs.declared.connecting.ConnectPlan.{ConnectPlan}
use Rattle.host_calls.specs.declared.sending.SendPlan.{SendPlan}
use Rattle.file_calls.specs.declared.descriptors.Descriptor.{Descriptor}
use Rattle.call_parts.specs.declared.epoll.WaitPlan.{WaitPlan}
use Rattle.guest_mem.specs.Memory.{Memory}
use Rattle.host_sockets.specs.TcpSocket.{TcpSocket}
use Rattle.sim_base.specs.Poll.{pollout}
use Rattle.file_calls.specs.declared.known.Known.{Known}
use Rattle.file_calls.specs.declared.task.Why.{Why}
use Rattle.host_calls.specs.declared.plan.Plan.{Plan}
use Rattle.host_calls.specs.declared.plan.Plan.TheVariants as plan
use Rattle.file_calls.specs.declared.transfer.Transfer.{Transfer}
use Rattle.call_parts.specs.declared.messages.Room.{Room}
use Rattle.call_parts.specs.declared.messages.Message.{Message}
use Rattle.call_parts.specs.declared.sockets.OpenSocket.{OpenSocket}
use Rattle.call_parts.specs.declared.sockets.SocketNumber.{SocketNumber}
use Rattle.call_parts.specs.declared.sockets.SocketNumber.TheVariants as number
use Rattle.host_calls.specs.Calls.{message_of, room_of, open_by, read_plan_of, write_plan_of, asked, waits}
use Rattle.call_parts.specs.Plain.{arg}
use Rattle.file_calls.specs.Descriptors.{descriptor}
use Rattle.file_calls.specs.Files.{may_read, wait_to_read, transfer, may_write, wait_to_write}
use Rattle.file_calls.specs.EpollControl.{epoll_number, event_size}
use Rattle.call_parts.specs.Epoll.{is_negative, most_told, wait_deadline}
use Rattle.host_calls.specs.Epoll.{waits_for}
use Rattle.file_calls.specs.Eventfd.{number_at, number_fits}
use Rattle.file_calls.specs.Flags.{has, msg_nosignal}
use Rattle.host_calls.specs.Parts.{Scene}
use Rattle.file_calls.specs.Scene.{or_again, kept_answers}
use Rattle.call_parts.specs.Sockets.{socket_number, given_address, refuse_flags, is_quick, recv_place}
use Rattle.host_calls.specs.Sockets.{accept_place, accept_plan_of, connect_ready, send_tcp_plan, send_plan, recv_ready, recv_plan}
use Rattle.call_laws.specs.Readiness.{is_refused, takes_number, is_ready, writing_ended, would_read, would_accept, would_write, would_connect, would_wait, IsWhole, AnswersWhere}
use Rattle.call_laws.proofs.ReadyObjects.{Tells, eventfd_read_tells, fits_tells, may_write_by, tells_kept, read_end_tells, write_end_tells, timer_tells, epoll_tells, recv_udp_tells, send_udp_holds, recv_tells, send_tells, accept_tells, connect_tells}
use Rattle.call_laws.proofs.Waits.{waits_in, is_wait_is}

-- a call that isn't refused answers exactly where a test holds
abbrev refuses : {A : Type 0} → Result A Refusal → Bool
refuses (Err (refusal.Errno errno)) = true
refuses (Err (refusal.Wait until)) = false
refuses (Err (refusal.Kept errno)) = false
refuses (Err (refusal.End state)) = false
refuses (Ok a) = false

abbrev Agrees : {A : Type 0} → Result A Refusal → Bool → Type 0
Agrees r holds = refuses r ≡ false → not (waits_in r) ≡ holds

is_refused_is : (r : Result Plan Refusal) → is_refused r ≡ refuses r
is_refused_is (Ok p) = refl
is_refused_is (Err (refusal.Wait until)) = refl
is_refused_is (Err (refusal.Errno errno)) = refl
is_refused_is (Err (refusal.Kept errno)) = refl
is_refused_is (Err (refusal.End state)) = refl

refused : (holds : Bool) → true ≡ false → true ≡ holds
refused holds e = cc

-- a step that only an error number refuses
abbrev OnlyErrno : {A : Type 0} → Result A Refusal → Type 0
OnlyErrno (Ok a) = Unit {0}
OnlyErrno (Err (refusal.Errno errno)) = Unit {0}
OnlyErrno (Err (refusal.Wait until)) = ⊥
OnlyErrno (Err (refusal.Kept errno)) = ⊥
OnlyErrno (Err (refusal.End state)) = ⊥

only_or : {A : Type 0} (o : Option A) (e : errno_type.Errno) → OnlyErrno (or_refuse o (refusal.Errno e))
only_or None e = tt
only_or (Some a) e = tt

only_if : (b : Bool) (e : errno_type.Errno) → OnlyErrno (refuse_if b (refusal.Errno e))
only_if true e = tt
only_if false e = tt

only_bind : {A B : Type 0} (r : Result A Refusal) (f : A → Result B Refusal) → OnlyErrno r → ((a : A) → OnlyErrno (f a)) → OnlyErrno (r >>= f)
only_bind (Ok a) f h k = k a
only_bind (Err (refusal.Errno errno)) f h k = tt
only_bind (Err (refusal.Wait until)) f h k = h
only_bind (Err (refusal.Kept errno)) f h k = h
only_bind (Err (refusal.End state)) f h k = h

only_then : {A B : Type 0} (r : Result A Refusal) (q : Result B Refusal) → OnlyErrno r → OnlyErrno q → OnlyErrno (r >> q)
only_then (Ok a) q h k = k
only_then (Err (refusal.Errno errno)) q h k = tt
only_then (Err (refusal.Wait until)) q h k = h
only_then (Err (refusal.Kept errno)) q h k = h
only_then (Err (refusal.End state)) q h k = h

only_either : {A : Type 0} (b : Bool) (x y : Result A Refusal) → OnlyErrno x → OnlyErrno y → OnlyErrno (if b then x else y)
only_either true x y h k = h
only_either false x y h k = k

passed : (r q : Result (Unit {0}) Refusal) (holds : Bool) → OnlyErrno r → Tells q holds → Tells (r >> q) holds
passed (Ok u) q holds only tells = tells
passed (Err (refusal.Errno errno)) q holds only tells = tt
passed (Err (refusal.Wait until)) q holds only tells = absurd only
passed (Err (refusal.Kept errno)) q holds only tells = absurd only
passed (Err (refusal.End state)) q holds only tells = absurd only

ruleset only = (only_or, only_if, only_bind, only_then, only_either)

agree_bind : {A B : Type 0} (r : Result A Refusal) (f : A → Result B Refusal) (holds : Bool) → OnlyErrno r → ((a : A) → Agrees (f a) holds) → Agrees (r >>= f) holds
agree_bind (Ok a) f holds h k = k a
agree_bind (Err (refusal.Errno errno)) f holds h k = refused holds
agree_bind (Err (refusal.Wait until)) f holds h k = absurd h
agree_bind (Err (refusal.Kept errno)) f holds h k = absurd h
agree_bind (Err (refusal.End state)) f holds h k = absurd h

agree_then : {A B : Type 0} (r : Result A Refusal) (q : Result B Refusal) (holds : Bool) → OnlyErrno r → Agrees q holds → Agrees (r >> q) holds
agree_then (Ok a) q holds h k = k
agree_then (Err (refusal.Errno errno)) q holds h k = refused holds
agree_then (Err (refusal.Wait until)) q holds h k = absurd h
agree_then (Err (refusal.Kept errno)) q holds h k = absurd h
agree_then (Err (refusal.End state)) q holds h k = absurd h

agree_map : {A B : Type 0} (r : Result A Refusal) (f : A → B) (holds : Bool) → Agrees r holds → Agrees (r >>= λ a. Ok (f a)) holds
agree_map (Ok a) f holds h = h
agree_map (Err (refusal.Errno errno)) f holds h = h
agree_map (Err (refusal.Wait until)) f holds h = h
agree_map (Err (refusal.Kept errno)) f holds h = h
agree_map (Err (refusal.End state)) f holds h = h

agree_last : {A : Type 0} (q : Result (Unit {0}) Refusal) (a : A) (holds : Bool) → Tells q holds → Agrees (q >> Ok a) holds
agree_last (Ok u) a holds h e = sym h
agree_last (Err (refusal.Wait until)) a holds h e = sym h
agree_last (Err (refusal.Kept errno)) a holds h e = sym h
agree_last (Err (refusal.End state)) a holds h e = sym h
agree_last (Err (refusal.Errno errno)) a holds h e = cc

agree_again : {A : Type 0} (b : Bool) (q : Result (Unit {0}) Refusal) (a : A) (holds : Bool) → Tells q holds → Agrees (or_again b q >> Ok a) holds
agree_again b (Ok u) a holds h e = sym h
agree_again true (Err (refusal.Wait until)) a holds h e = cc
agree_again false (Err (refusal.Wait until)) a holds h e = sym h
agree_again b (Err (refusal.Kept errno)) a holds h e = sym h
agree_again b (Err (refusal.End state)) a holds h e = sym h
agree_again b (Err (refusal.Errno errno)) a holds h e = cc

-- files
by_file : {A : Type 0} (may ready : Result (Unit {0}) Refusal) (shut nonblocking : Bool) (t : Transfer) (f : Transfer → A) (holds : Bool) → OnlyErrno may → Tells ready holds
    → Agrees ((may >> (refuse_if shut (refusal.Errno Efault) >> (or_again nonblocking ready >> Ok t))) >>= λ x. Ok (f x)) holds
by_file may ready shut nonblocking t f holds only tells =
    agree_map (may >> (refuse_if shut (refusal.Errno Efault) >> (or_again nonblocking ready >> Ok t))) f holds
    (agree_then may _ holds only (agree_then (refuse_if shut (refusal.Errno Efault)) _ holds (only_if shut Efault) (agree_again nonblocking ready t holds tells)))

abbrev reads_file : Time → Object → Descriptor → ℕ → ℕ → Scene → Result Plan Refusal
reads_file now object d at n s =
    (may_read object n >> (refuse_if (not (can_write (counted n) at s.task.memory)) (refusal.Errno Efault)
    >> (or_again d.file.nonblocking (wait_to_read now object s.shared.files) >> Ok (transfer d at n)))) >>= λ t. Ok (plan.Read t)

file_reads : (now : Time) (object : Object) (d : Descriptor) (at n : ℕ) (s : Scene) (holds : Bool) → OnlyErrno (may_read object n) → Tells (wait_to_read now object s.shared.files) holds
    → Agrees (reads_file now object d at n s) holds
file_reads now object d at n s holds only tells =
    by_file (may_read object n) (wait_to_read now object s.shared.files) (not (can_write (counted n) at s.task.memory)) d.file.nonblocking (transfer d at n) (λ t. plan.Read t) holds only tells

-- sockets that receive
recv_agrees : (socket : OpenSocket) (flags : ℕ) (room : Room) (s : Scene) (holds : Bool) → Tells (recv_ready socket.number s.sockets) holds
    → Agrees (recv_plan socket flags room s.task.memory s.sockets >>= λ r. Ok (plan.Receive r)) holds
recv_agrees socket flags room s holds tells =
    agree_map (recv_plan socket flags room s.task.memory s.sockets) (λ r. plan.Receive r) holds
    (agree_then (refuse_flags flags) _ holds (search only) (agree_bind (recv_place room s.task.memory) _ holds (search only)
    (λ place. agree_again (is_quick socket.nonblocking flags) (recv_ready socket.number s.sockets) _ holds tells)))

udp_reads : (now : Time) (args : List ℕ) (k : ℕ) (s : Scene) → Tells (recv_ready (number.Udp k) s.sockets) (would_read args now (kind.Udp k) s)
udp_reads now args k s = recv_udp_tells (udp_in k s.sockets)

tcp_reads : (now : Time) (args : List ℕ) (k : ℕ) (s : Scene) → IsWhole (kind.Tcp k) s.sockets → Tells (recv_ready (number.Tcp k) s.sockets) (would_read args now (kind.Tcp k) s)
tcp_reads now args k s whole = tells_kept _ _ (recv_tells _ whole)

-- read(2)
abbrev reads_by : Time → Object → Descriptor → ℕ → ℕ → Scene → Result SocketNumber Refusal → Result Plan Refusal
reads_by now object d at n s (Ok socket) = recv_plan (open_by d socket) 0 (room_of at n 0 0) s.task.memory s.sockets >>= λ r. Ok (plan.Receive r)
reads_by now object d at n s (Err e) = reads_file now object d at n s

may_time : (n : ℕ) → OnlyErrno (may_read (kind.Timer 0) n)
may_time n = search only

read_agrees : (now : Time) (args : List ℕ) (object : Object) (d : Descriptor) (at n : ℕ) (s : Scene) → IsWhole object s.sockets
    → Agrees (reads_by now object d at n s (socket_number object)) (would_read args now object s)
read_agrees now args kind.Input d at n s whole = file_reads now kind.Input d at n s _ tt refl
read_agrees now args kind.Output d at n s whole = refused _
read_agrees now args kind.Errors d at n s whole = refused _
read_agrees now args (kind.Hosts read) d at n s whole = file_reads now (kind.Hosts read) d at n s _ tt refl
read_agrees now args (kind.ReadEnd k) d at n s whole = file_reads now (kind.ReadEnd k) d at n s _ tt (read_end_tells (pipe_at k s.shared.files))
read_agrees now args (kind.WriteEnd k) d at n s whole = refused _
read_agrees now args (kind.Timer k) d at n s whole = file_reads now (kind.Timer k) d at n s _ (may_time n) (timer_tells (timer_count now.nanos k s.shared.files))
read_agrees now args (kind.Eventfd k) d at n s whole = file_reads now (kind.Eventfd k) d at n s _ (may_time n) (eventfd_read_tells (eventfd_at k s.shared.files))
read_agrees now args (kind.Epoll k) d at n s whole = refused _
read_agrees now args (kind.Udp k) d at n s whole = recv_agrees (open_by d (number.Udp k)) 0 (room_of at n 0 0) s _ (udp_reads now args k s)
read_agrees now args (kind.Tcp k) d at n s whole = recv_agrees (open_by d (number.Tcp k)) 0 (room_of at n 0 0) s _ (tcp_reads now args k s whole)

-- recvfrom(2)
abbrev opened : {A : Type 0} → Descriptor → (OpenSocket → Result A Refusal) → Result SocketNumber Refusal → Result A Refusal
opened d f socket = (socket >>= λ n. Ok (open_by d n)) >>= f

recvfrom_agrees : (now : Time) (args : List ℕ) (object : Object) (d : Descriptor) (flags : ℕ) (room : Room) (s : Scene) → IsWhole object s.sockets
    → Agrees (opened d (λ socket. recv_plan socket flags room s.task.memory s.sockets) (socket_number object) >>= λ r. Ok (plan.Receive r)) (would_read args now object s)
recvfrom_agrees now args kind.Input d flags room s whole = refused _
recvfrom_agrees now args kind.Output d flags room s whole = refused _
recvfrom_agrees now args kind.Errors d flags room s whole = refused _
recvfrom_agrees now args (kind.Hosts read) d flags room s whole = refused _
recvfrom_agrees now args (kind.ReadEnd k) d flags room s whole = refused _
recvfrom_agrees now args (kind.WriteEnd k) d flags room s whole = refused _
recvfrom_agrees now args (kind.Timer k) d flags room s whole = refused _
recvfrom_agrees now args (kind.Eventfd k) d flags room s whole = refused _
recvfrom_agrees now args (kind.Epoll k) d flags room s whole = refused _
recvfrom_agrees now args (kind.Udp k) d flags room s whole = recv_agrees (open_by d (number.Udp k)) flags room s _ (udp_reads now args k s)
recvfrom_agrees now args (kind.Tcp k) d flags room s whole = recv_agrees (open_by d (number.Tcp k)) flags room s _ (tcp_reads now args k s whole)

-- accept(2)
accept_tcp_agrees : (now : Time) (args : List ℕ) (d : Descriptor) (k at size_at : ℕ) (s : Scene) → IsWhole (kind.Tcp k) s.sockets
    → Agrees (accept_plan_of (open_by d (number.Tcp k)) at size_at s.task s.sockets >>= λ a. Ok (plan.Accept a)) (would_accept args now (kind.Tcp k) s)
accept_tcp_agrees now args d k at size_at s whole =
    agree_map (accept_plan_of (open_by d (number.Tcp k)) at size_at s.task s.sockets) (λ a. plan.Accept a) _
    (agree_bind (accept_place k at size_at s.task s.sockets) _ _ (search only depth 8)
    (λ new. agree_again d.file.nonblocking (accept_ready k s.sockets) _ _ (accept_tells _ whole)))

accept_agrees : (now : Time) (args : List ℕ) (object : Object) (d : Descriptor) (at size_at : ℕ) (s : Scene) → IsWhole object s.sockets
    → Agrees (opened d (λ socket. accept_plan_of socket at size_at s.task s.sockets) (socket_number object) >>= λ a. Ok (plan.Accept a)) (would_accept args now object s)
accept_agrees now args kind.Input d at size_at s whole = refused _
accept_agrees now args kind.Output d at size_at s whole = refused _
accept_agrees now args kind.Errors d at size_at s whole = refused _
accept_agrees now args (kind.Hosts read) d at size_at s whole = refused _
accept_agrees now args (kind.ReadEnd k) d at size_at s whole = refused _
accept_agrees now args (kind.WriteEnd k) d at size_at s whole = refused _
accept_agrees now args (kind.Timer k) d at size_at s whole = refused _
accept_agrees now args (kind.Eventfd k) d at size_at s whole = refused _
accept_agrees now args (kind.Epoll k) d at size_at s whole = refused _
accept_agrees now args (kind.Udp k) d at size_at s whole = refused _
accept_agrees now args (kind.Tcp k) d at size_at s whole = accept_tcp_agrees now args d k at size_at s whole

-- sockets that send
abbrev object_of : SocketNumber → Object
object_of (number.Udp k) = kind.Udp k
object_of (number.Tcp k) = kind.Tcp k

abbrev connection : OpenSocket → ℕ → ℕ → ConnectPlan
connection socket at size = record { socket = socket; at = at; size = size }

reached : {A : Type 0} (r : Result A Refusal) (g q : A → Result (Unit {0}) Refusal) (holds : Bool) → ((a : A) → OnlyErrno (g a)) → Tells (r >>= q) holds → Tells (r >>= λ a. g a >> q a) holds
reached (Ok a) g q holds only tells = passed (g a) (q a) holds (only a) tells
reached (Err e) g q holds only tells = tells

counts : (n : ℕ) → not (nat_lt 0 (counted n)) ≡ (n == 0)
counts n = grind (arith, nat_tests)

reach_given_only : (hosts : List Ip) (to : Option Addr) (s : TcpSocket) → OnlyErrno (reach_given hosts to s)
reach_given_only hosts None s = tt
reach_given_only hosts (Some to) s = search only

given_only : (at size : ℕ) (memory : Memory) → OnlyErrno (given_address at size memory)
given_only at size memory = search only depth 8

past_flags : (r : Result (Unit {0}) Refusal) (q : Result SendPlan Refusal) (holds : Bool) → OnlyErrno r → Agrees (q >>= λ m. Ok (plan.Send m)) holds
    → Agrees ((r >> q) >>= λ m. Ok (plan.Send m)) holds
past_flags (Ok u) q holds only agrees = agrees
past_flags (Err (refusal.Errno errno)) q holds only agrees = refused holds
past_flags (Err (refusal.Wait until)) q holds only agrees = absurd only
past_flags (Err (refusal.Kept errno)) q holds only agrees = absurd only
past_flags (Err (refusal.End state)) q holds only agrees = absurd only

abbrev sends_tcp : List Ip → ℕ → Bool → Bool → Message → Scene → Result Plan Refusal
sends_tcp hosts k nonblocking quiet message s = send_tcp_plan hosts k nonblocking quiet message s.task.memory s.sockets >>= λ m. Ok (plan.Send m)

-- what a send tries of an address, and then what it waits for
send_asked_tells : (hosts : List Ip) (k n : ℕ) (to : Option Addr) (quiet : Bool) (t : SocketsRecord) (holds : Bool)
    → Tells (tcp_at k t >>= λ s. may_write_by (nat_lt 0 n) quiet s.tcb) holds → Tells (send_asked hosts k n to quiet t) holds
send_asked_tells hosts k n to quiet t holds tells = reached (tcp_at k t) (λ s. reach_given hosts to s) (λ s. may_write_by (nat_lt 0 n) quiet s.tcb) holds (λ s. reach_given_only hosts to s) tells

tcp_writes : (now : Time) (args : List ℕ) (k : ℕ) (s : Scene) (hosts : List Ip) (to : Option Addr) (quiet : Bool) → IsWhole (kind.Tcp k) s.sockets
    → Tells (kept_answers (send_asked hosts k (counted (arg args 2)) to quiet s.sockets)) (would_write args now (kind.Tcp k) s)
tcp_writes now args k s hosts to quiet whole =
    tells_kept _ _ (send_asked_tells hosts k (counted (arg args 2)) to quiet s.sockets _
    (subst (λ (b : Bool). Tells (tcp_at k s.sockets >>= λ x. may_write_by (nat_lt 0 (counted (arg args 2))) quiet x.tcb) (b || (is_ready pollout now (kind.Tcp k) s || writing_ended (kind.Tcp k) s)))
    (counts (arg args 2)) (send_tells _ (nat_lt 0 (counted (arg args 2))) quiet whole)))

sends_tcp_agrees : (now : Time) (args : List ℕ) (k : ℕ) (nonblocking quiet : Bool) (at to_at size : ℕ) (hosts : List Ip) (s : Scene) → IsWhole (kind.Tcp k) s.sockets
    → Agrees (sends_tcp hosts k nonblocking quiet (message_of at (arg args 2) to_at size) s) (would_write args now (kind.Tcp k) s)
sends_tcp_agrees now args k nonblocking quiet at to_at size hosts s whole =
    agree_map (send_tcp_plan hosts k nonblocking quiet (message_of at (arg args 2) to_at size) s.task.memory s.sockets) (λ m. plan.Send m) _
    (agree_then (refuse_if (not (can_read (counted (arg args 2)) at s.task.memory)) (refusal.Errno Efault)) _ _ (only_if _ Efault)
    (agree_bind (given_address to_at size s.task.memory) _ _ (given_only to_at size s.task.memory)
    (λ to. agree_again nonblocking (kept_answers (send_asked hosts k (counted (arg args 2)) to quiet s.sockets)) _ _ (tcp_writes now args k s hosts to quiet whole))))

either : (a c : Bool) → (a || (true || c)) ≡ true
either true c = refl
either false c = refl

udp_writes : (now : Time) (args : List ℕ) (k : ℕ) (s : Scene) → IsWhole (kind.Udp k) s.sockets → would_write args now (kind.Udp k) s ≡ true
udp_writes now args k s whole =
    ap (λ (b : Bool). (arg args 2 == 0) || (b || false)) (send_udp_holds (udp_in k s.sockets) whole) ∙ either (arg args 2 == 0) false

send_agrees : (now : Time) (args : List ℕ) (n : SocketNumber) (nonblocking : Bool) (flags at to_at size : ℕ) (hosts : List Ip) (s : Scene) → IsWhole (object_of n) s.sockets
    → Agrees (send_plan hosts (record { nonblocking = nonblocking; number = n }) flags (message_of at (arg args 2) to_at size) s.task.memory s.sockets >>= λ m. Ok (plan.Send m))
    (would_write args now (object_of n) s)
send_agrees now args (number.Udp k) nonblocking flags at to_at size hosts s whole =
    agree_map (send_plan hosts (record { nonblocking = nonblocking; number = number.Udp k }) flags (message_of at (arg args 2) to_at size) s.task.memory s.sockets) (λ m. plan.Send m) _
    (agree_then (refuse_flags flags) _ _ (search only) (λ e. sym (udp_writes now args k s whole)))
send_agrees now args (number.Tcp k) nonblocking flags at to_at size hosts s whole =
    past_flags (refuse_flags flags) (send_tcp_plan hosts k (is_quick nonblocking flags) (has msg_nosignal flags) (message_of at (arg args 2) to_at size) s.task.memory s.sockets) _ (search only)
    (sends_tcp_agrees now args k (is_quick nonblocking flags) (has msg_nosignal flags) at to_at size hosts s whole)

-- eventfds
number_at_only : (at : ℕ) (memory : Memory) → OnlyErrno (number_at at memory)
number_at_only at memory = search only

eventfd_write_tells : (r : Result ℕ Refusal) (slot : Option Eventfd) → OnlyErrno r → Tells (r >>= λ number. number_fits number slot) (takes_number r slot)
eventfd_write_tells (Ok number) slot only = fits_tells number slot
eventfd_write_tells (Err (refusal.Errno errno)) slot only = tt
eventfd_write_tells (Err (refusal.Wait until)) slot only = absurd only
eventfd_write_tells (Err (refusal.Kept errno)) slot only = absurd only
eventfd_write_tells (Err (refusal.End state)) slot only = absurd only

-- write(2)
abbrev writes_file : Object → Descriptor → ℕ → ℕ → Scene → Result Plan Refusal
writes_file object d at n s =
    (may_write object n >> (refuse_if (not (can_read (counted n) at s.task.memory)) (refusal.Errno Efault)
    >> (or_again d.file.nonblocking (wait_to_write at (counted n) object s.task.memory s.shared.files) >> Ok (transfer d at n)))) >>= λ t. Ok (plan.Write t)

file_writes : (object : Object) (d : Descriptor) (at n : ℕ) (s : Scene) (holds : Bool) → OnlyErrno (may_write object n) → Tells (wait_to_write at (counted n) object s.task.memory s.shared.files) holds
    → Agrees (writes_file object d at n s) holds
file_writes object d at n s holds only tells =
    by_file (may_write object n) (wait_to_write at (counted n) object s.task.memory s.shared.files) (not (can_read (counted n) at s.task.memory)) d.file.nonblocking (transfer d at n) (λ t. plan.Write t) holds only tells

abbrev writes_by : Known → Object → Descriptor → ℕ → ℕ → Scene → Result SocketNumber Refusal → Result Plan Refusal
writes_by known object d at n s (Ok socket) = send_plan known.book (open_by d socket) 0 (message_of at n 0 0) s.task.memory s.sockets >>= λ m. Ok (plan.Send m)
writes_by known object d at n s (Err e) = writes_file object d at n s

write_end_writes : (now : Time) (args : List ℕ) (k at : ℕ) (s : Scene) → Tells (wait_to_write at (counted (arg args 2)) (kind.WriteEnd k) s.task.memory s.shared.files) (would_write args now (kind.WriteEnd k) s)
write_end_writes now args k at s =
    subst (λ (b : Bool). Tells (wait_to_write at (counted (arg args 2)) (kind.WriteEnd k) s.task.memory s.shared.files) (b || (is_ready pollout now (kind.WriteEnd k) s || writing_ended (kind.WriteEnd k) s)))
    (counts (arg args 2)) (write_end_tells (pipe_at k s.shared.files) (nat_lt 0 (counted (arg args 2))))

write_agrees : (known : Known) (now : Time) (args : List ℕ) (object : Object) (d : Descriptor) (s : Scene) → IsWhole object s.sockets
    → Agrees (writes_by known object d (arg args 1) (arg args 2) s (socket_number object)) (would_write args now object s)
write_agrees known now args kind.Input d s whole = refused _
write_agrees known now args kind.Output d s whole = file_writes kind.Output d (arg args 1) (arg args 2) s _ tt (either (arg args 2 == 0) false)
write_agrees known now args kind.Errors d s whole = file_writes kind.Errors d (arg args 1) (arg args 2) s _ tt (either (arg args 2 == 0) false)
write_agrees known now args (kind.Hosts read) d s whole = refused _
write_agrees known now args (kind.ReadEnd k) d s whole = refused _
write_agrees known now args (kind.WriteEnd k) d s whole = file_writes (kind.WriteEnd k) d (arg args 1) (arg args 2) s _ tt (write_end_writes now args k (arg args 1) s)
write_agrees known now args (kind.Timer k) d s whole = refused _
write_agrees known now args (kind.Eventfd k) d s whole =
    file_writes (kind.Eventfd k) d (arg args 1) (arg args 2) s _ (may_time (arg args 2)) (eventfd_write_tells (number_at (arg args 1) s.task.memory) (eventfd_at k s.shared.files) (number_at_only (arg args 1) s.task.memory))
write_agrees known now args (kind.Epoll k) d s whole = refused _
write_agrees known now args (kind.Udp k) d s whole = send_agrees now args (number.Udp k) d.file.nonblocking 0 (arg args 1) 0 0 known.book s whole
write_agrees known now args (kind.Tcp k) d s whole = send_agrees now args (number.Tcp k) d.file.nonblocking 0 (arg args 1) 0 0 known.book s whole

-- sendto(2)
sendto_agrees : (now : Time) (args : List ℕ) (object : Object) (d : Descriptor) (flags at to_at size : ℕ) (hosts : List Ip) (s : Scene) → IsWhole object s.sockets
    → Agrees (opened d (λ socket. send_plan hosts socket flags (message_of at (arg args 2) to_at size) s.task.memory s.sockets) (socket_number object) >>= λ m. Ok (plan.Send m))
    (would_write args now object s)
sendto_agrees now args kind.Input d flags at to_at size hosts s whole = refused _
sendto_agrees now args kind.Output d flags at to_at size hosts s whole = refused _
sendto_agrees now args kind.Errors d flags at to_at size hosts s whole = refused _
sendto_agrees now args (kind.Hosts read) d flags at to_at size hosts s whole = refused _
sendto_agrees now args (kind.ReadEnd k) d flags at to_at size hosts s whole = refused _
sendto_agrees now args (kind.WriteEnd k) d flags at to_at size hosts s whole = refused _
sendto_agrees now args (kind.Timer k) d flags at to_at size hosts s whole = refused _
sendto_agrees now args (kind.Eventfd k) d flags at to_at size hosts s whole = refused _
sendto_agrees now args (kind.Epoll k) d flags at to_at size hosts s whole = refused _
sendto_agrees now args (kind.Udp k) d flags at to_at size hosts s whole = send_agrees now args (number.Udp k) d.file.nonblocking flags at to_at size hosts s whole
sendto_agrees now args (kind.Tcp k) d flags at to_at size hosts s whole = send_agrees now args (number.Tcp k) d.file.nonblocking flags at to_at size hosts s whole

-- connect(2)
kept_ready : (o : Option Why) (why : Why) (r : Result (Unit {0}) Refusal) (holds : Bool) → o ≡ Some why → Tells r holds → Tells (if is_some o then kept_answers r else Ok tt) holds
kept_ready None why r holds e h = cc
kept_ready (Some first) why r holds e h = tells_kept r holds h

tcp_connects : (now : Time) (args : List ℕ) (k : ℕ) (s : Scene) (why : Why) → s.task.kept ≡ Some why → Tells (connect_ready (number.Tcp k) s) (would_connect args now (kind.Tcp k) s)
tcp_connects now args k s why kept = kept_ready s.task.kept why (connect_waited k s.sockets) _ kept (connect_tells _)

connect_agrees : (now : Time) (args : List ℕ) (object : Object) (d : Descriptor) (at size : ℕ) (s : Scene) (why : Why) → s.task.kept ≡ Some why
    → Agrees (opened d (λ socket. connect_ready socket.number s >> Ok (connection socket at size)) (socket_number object) >>= λ c. Ok (plan.Connect c)) (would_connect args now object s)
connect_agrees now args kind.Input d at size s why kept = refused _
connect_agrees now args kind.Output d at size s why kept = refused _
connect_agrees now args kind.Errors d at size s why kept = refused _
connect_agrees now args (kind.Hosts read) d at size s why kept = refused _
connect_agrees now args (kind.ReadEnd k) d at size s why kept = refused _
connect_agrees now args (kind.WriteEnd k) d at size s why kept = refused _
connect_agrees now args (kind.Timer k) d at size s why kept = refused _
connect_agrees now args (kind.Eventfd k) d at size s why kept = refused _
connect_agrees now args (kind.Epoll k) d at size s why kept = refused _
connect_agrees now args (kind.Udp k) d at size s why kept = λ e. refl
connect_agrees now args (kind.Tcp k) d at size s why kept =
    agree_map (connect_ready (number.Tcp k) s >> Ok (connection (open_by d (number.Tcp k)) at size)) (λ c. plan.Connect c) _
    (agree_last (connect_ready (number.Tcp k) s) _ _ (tcp_connects now args k s why kept))

-- epoll_pwait(2)
open_epoll : (none shut : Bool) (p : WaitPlan) (q : WaitPlan → Result (Unit {0}) Refusal) (holds : Bool) → Tells (q p) holds
    → Agrees (((refuse_if none (refusal.Errno Einval) >> (refuse_if shut (refusal.Errno Efault) >> Ok p)) >>= λ x. q x >> Ok x) >>= λ x. Ok (plan.EpollWait x)) holds
open_epoll true shut p q holds tells = refused holds
open_epoll false true p q holds tells = refused holds
open_epoll false false p q holds tells = agree_map (q p >> Ok p) (λ x. plan.EpollWait x) holds (agree_last (q p) p holds tells)

abbrev waits_by : Time → ℕ → ℕ → ℕ → Scene → Result ℕ Refusal → Result Plan Refusal
waits_by now at count ms s number =
    ((number >>= λ place. refuse_if (count == 0 || is_negative count) (refusal.Errno Einval)
    >> (refuse_if (not (can_write (event_size * min count most_told) at s.task.memory)) (refusal.Errno Efault)
    >> Ok (record { place = place; at = at; room = min count most_told })))
    >>= λ p. waits_for now (wait_deadline now ms s.task) p.place s >> Ok p) >>= λ p. Ok (plan.EpollWait p)

wait_agrees : (now : Time) (args : List ℕ) (object : Object) (s : Scene)
    → Agrees (waits_by now (arg args 1) (arg args 2) (arg args 3) s (epoll_number object)) (would_wait args now object s)
wait_agrees now args kind.Input s = refused _
wait_agrees now args kind.Output s = refused _
wait_agrees now args kind.Errors s = refused _
wait_agrees now args (kind.Hosts read) s = refused _
wait_agrees now args (kind.ReadEnd k) s = refused _
wait_agrees now args (kind.WriteEnd k) s = refused _
wait_agrees now args (kind.Timer k) s = refused _
wait_agrees now args (kind.Eventfd k) s = refused _
wait_agrees now args (kind.Epoll k) s =
    open_epoll (arg args 2 == 0 || is_negative (arg args 2)) (not (can_write (event_size * min (arg args 2) most_told) (arg args 1) s.task.memory))
    (record { place = k; at = arg args 1; room = min (arg args 2) most_told }) (λ p. waits_for now (wait_deadline now (arg args 3) s.task) p.place s) _
    (epoll_tells now (wait_deadline now (arg args 3) s.task) k s)
wait_agrees now args (kind.Udp k) s = refused _
wait_agrees now args (kind.Tcp k) s = refused _

-- the calls of the table
abbrev Agreeing : (List ℕ → Time → Object → Scene → Bool) → WaitingCall → Type 0
Agreeing ready call = (known : Known) (now : Time) (args : List ℕ) (s : Scene) (d : Descriptor) (why : Why) → s.task.kept ≡ Some why
    → descriptor (arg args 0) s.task s.shared.files ≡ Ok d → IsWhole d.file.object s.sockets → Agrees (asked known now call args s) (ready args now d.file.object s)

pub answers_where : (ready : List ℕ → Time → Object → Scene → Bool) (call : WaitingCall) → Agreeing ready call → AnswersWhere ready call
answers_where ready call agrees known now why s d is kept e whole goes =
    ap (λ (c : Option Call). not (waits known now c why.args s)) is
    ∙ ap not (is_wait_is (asked known now call why.args s))
    ∙ agrees known now why.args s d why kept e whole (sym (is_refused_is (asked known now call why.args s)) ∙ goes)

reads_is : (now : Time) (d : Descriptor) (at n : ℕ) (s : Scene) (socket : Result SocketNumber Refusal) → read_plan_of now d socket at n s ≡ reads_by now d.file.object d at n s socket
reads_is now d at n s (Ok socket) = refl
reads_is now d at n s (Err e) = refl

writes_is : (known : Known) (d : Descriptor) (at n : ℕ) (s : Scene) (socket : Result SocketNumber Refusal) → write_plan_of known d socket at n s ≡ writes_by known d.file.object d at n s socket
writes_is known d at n s (Ok socket) = refl
writes_is known d at n s (Err e) = refl

pub read_answers : Agreeing would_read waiting.Read
read_answers known now args s d why kept e whole =
    rw (e, reads_is now d (arg args 1) (arg args 2) s (socket_number d.file.object)) (read_agrees now args d.file.object d (arg args 1) (arg args 2) s whole)

pub recvfrom_answers : Agreeing would_read waiting.Recvfrom
recvfrom_answers known now args s d why kept e whole =
    rw e (recvfrom_agrees now args d.file.object d (arg args 3) (room_of (arg args 1) (arg args 2) (arg args 4) (arg args 5)) s whole)

pub accept_answers : Agreeing would_accept waiting.Accept
accept_answers known now args s d why kept e whole = rw e (accept_agrees now args d.file.object d (arg args 1) (arg args 2) s whole)

pub write_answers : Agreeing would_write waiting.Write
write_answers known now args s d why kept e whole =
    rw (e, writes_is known d (arg args 1) (arg args 2) s (socket_number d.file.object)) (write_agrees known now args d.file.object d s whole)

pub sendto_answers : Agreeing would_write waiting.Sendto
sendto_answers known now args s d why kept e whole =
    rw e (sendto_agrees now args d.file.object d (arg args 3) (arg args 1) (arg args 4) (arg args 5) known.book s whole)

pub wait_answers : Agreeing would_wait waiting.EpollWait
wait_answers known now args s d why kept e whole = rw e (wait_agrees now args d.file.object s)

pub connect_answers : Agreeing would_connect waiting.Connect
connect_answers known now args s d why kept e whole = rw e (connect_agrees now args d.file.object d (arg args 1) (arg args 2) s why kept)
