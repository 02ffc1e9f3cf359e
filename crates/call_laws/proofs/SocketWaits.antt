-- Of the calls on sockets accept, connect, send and recv wait, exactly where they are asked what they would do.
use Rattle.std.proofs.Common.{◌≡◌, ℕ, zero, suc, ◌+◌, Bool, false, not, List, [], ◌∷◌, length, Option, Some, None, is_some, is_none, Result, Ok, Err, refl, ap, ◌∙◌, nat_lt, if◌then◌else◌, arith}
use Rattle.std.proofs.lemmas.Bool.Decides.{nat_tests}
use Rattle.std.specs.Prelude.{IfOk}
use Rattle.sim_base.specs.declared.address.Addr.{Addr}
use Rattle.sim_base.specs.declared.address.Ip.{Ip}
use Rattle.sim_base.specs.declared.errno.Errno as errno_type
use Rattle.sim_base.specs.declared.errno.Errno.TheVariants.{Ebadf, Efault}
use Rattle.sim_base.specs.declared.time.Time.{Time}
use Rattle.sim_base.specs.Refusals.{◌>>=◌, or_refuse, refuse_if}
use Rattle.guest_mem.specs.Memory.{Memory, with_first, byte_for, read}
use Rattle.guest_mem.specs.declared.right.Right.{Right}
use Rattle.guest_mem.specs.declared.right.Right.TheVariants.{Read}
use Rattle.guest_args.specs.declared.address.AddressPlace.{AddressPlace}
use Rattle.guest_args.specs.Span.{counted, span, can_read}
use Rattle.sock_udp.specs.Socket.{UdpState}
use Rattle.sock_udp.specs.declared.datagram.Datagram.{Datagram}
use Rattle.host_wants.specs.declared.error.Refusal.{Refusal}
use Rattle.host_wants.specs.declared.error.Refusal.TheVariants as refusal
use Rattle.host_sockets.specs.declared.reply.Reply.{Reply}
use Rattle.host_sockets.specs.declared.reply.Reply.TheVariants.{Done, Failed}
use Rattle.host_wants.specs.Refusals.{by_errno, waits_if}
use Rattle.host_wants.specs.Wanted.{Wanted}
use Rattle.host_sockets.specs.Sockets.{SocketsRecord}
use Rattle.udp_slots.specs.Slots.{only_state, oldest_datagram}
use Rattle.host_sockets.specs.Udp.{binds_udp, connects_udp, sends_udp, udp_fits, receives_udp, recv_udp_asked, udp_in}
use Rattle.host_sockets.specs.Accepting.{accepts_tcp, accept_asked, accept_ready, accepts_at}
use Rattle.host_sockets.specs.Connecting.{taking, without_change, connect_waited, connect_answers}
use Rattle.host_sockets.specs.Moving.{send_asked, sends_bytes, sends_taking, recv_asked, receives_bytes, receives_taking}
use Rattle.host_calls.specs.declared.parts.Reaction.{Reaction}
use Rattle.file_calls.specs.declared.task.Why.{Why}
use Rattle.call_parts.specs.declared.messages.Room.{Room}
use Rattle.call_parts.specs.declared.messages.Message.{Message}
use Rattle.host_calls.specs.declared.sending.StreamSend.{StreamSend}
use Rattle.call_parts.specs.declared.sockets.OpenSocket.{OpenSocket}
use Rattle.call_parts.specs.declared.sockets.SocketNumber.{SocketNumber}
use Rattle.call_parts.specs.declared.sockets.SocketNumber.TheVariants as number
use Rattle.file_calls.specs.Flags.{has, msg_nosignal}
use Rattle.host_calls.specs.Parts.{Scene, local_of}
use Rattle.file_calls.specs.Scene.{or_again, kept_answers}
use Rattle.call_parts.specs.Sockets.{tcp_number, address, given_address, refuse_flags, is_quick, recv_place, open_socket}
use Rattle.host_calls.specs.Sockets.{accept_place, accept_plan, accepts, connected, connect_udp, connect_again, connect_call, connect_ready, connect_plan, connects, send_udp, send_tcp, send_plan_of, send_plan, sends_by, recv_ready, recv_plan, recv_by, receives}
use Rattle.call_laws.proofs.Waits.{Never, Same, waits_in, reaction_waits, nevers, never_bind, same_bind, same_then, ends_bind, ends_then, gives_bind, gives_then, ok_never, kept_never, again_kept_never, span_never}

-- where a row answers a reaction
reaction_bind : {A : Type 0} (r : Result A Refusal) (f : A → Result (Reaction × Scene) Refusal) → ((a : A) → reaction_waits (f a) ≡ false) → reaction_waits (r >>= f) ≡ waits_in r
reaction_bind (Ok a) f k = k a
reaction_bind (Err e) f k = refl

reaction_same : {A B : Type 0} (r : Result A Refusal) (f : A → Result (Reaction × Scene) Refusal) (g : A → Result B Refusal) → ((a : A) → reaction_waits (f a) ≡ waits_in (g a))
    → reaction_waits (r >>= f) ≡ waits_in (r >>= g)
reaction_same (Ok a) f g k = k a
reaction_same (Err e) f g k = refl

-- what never waits
pub by_errno_never : {A : Type 0} (r : Result A errno_type.Errno) → Never (by_errno r)
by_errno_never (Ok a) = refl
by_errno_never (Err e) = refl

only_state_never : (r : Result UdpState Refusal) → Never r → Never (only_state r)
only_state_never (Ok u) h = refl
only_state_never (Err e) h = h

pub binds_udp_never : (hosts : List Ip) (k : ℕ) (to : Addr) (t : SocketsRecord) → Never (binds_udp hosts k to t)
unfolding binds_udp
binds_udp_never hosts k to t = search (nevers, by_errno_never, only_state_never)

pub connects_udp_never : (hosts : List Ip) (k : ℕ) (to : Addr) (t : SocketsRecord) → Never (connects_udp hosts k to t)
unfolding connects_udp
connects_udp_never hosts k to t = search (nevers, by_errno_never, only_state_never)

sends_udp_never : (hosts : List Ip) (k : ℕ) (bytes : List ℕ) (to : Option Addr) (t : SocketsRecord) → Never (sends_udp hosts k bytes to t)
unfolding sends_udp
sends_udp_never hosts k bytes to t = search (nevers, by_errno_never)

address_never : (at size : ℕ) (memory : Memory) → Never (address at size memory)
address_never at size memory = search nevers

given_address_never : (at size : ℕ) (memory : Memory) → Never (given_address at size memory)
given_address_never at size memory = search (nevers, address_never)

udp_fits_never : (k count : ℕ) (given : Bool) (t : SocketsRecord) → Never (udp_fits k count given t)
udp_fits_never k count given t = search nevers

send_udp_never : (hosts : List Ip) (k : ℕ) (message : Message) (s : Scene) → Never (send_udp hosts k message s)
send_udp_never hosts k message s = search (nevers, udp_fits_never, given_address_never, sends_udp_never)

connect_udp_never : (hosts : List Ip) (k at size : ℕ) (s : Scene) → reaction_waits (connect_udp hosts k at size s) ≡ false
connect_udp_never hosts k at size s =
    reaction_same (address at size s.task.memory) _ (λ to. connects_udp hosts k to s.sockets) (λ to. reaction_bind (connects_udp hosts k to s.sockets) _ (λ a. refl))
    ∙ never_bind (address at size s.task.memory) _ (address_never at size s.task.memory) (λ to. connects_udp_never hosts k to s.sockets)

-- an error that is taken
taking_is : {A : Type 0} (now : Time) (k : ℕ) (r : Result (A × (SocketsRecord × Wanted)) Refusal) (t : SocketsRecord) (w : Wanted) → Same (taking now k r t w) r
taking_is now k (Ok (a, after)) t w = refl
taking_is now k (Err (refusal.Kept errno)) t w = refl
taking_is now k (Err (refusal.Errno errno)) t w = refl
taking_is now k (Err (refusal.Wait until)) t w = refl
taking_is now k (Err (refusal.End state)) t w = refl

without_change_is : {A : Type 0} (t : SocketsRecord) (w : Wanted) (r : Result A Refusal) → Same (without_change t w r) r
without_change_is t w (Ok a) = refl
without_change_is t w (Err e) = refl

-- accept(2)
or_wait_is : {A : Type 0} (o : Option A) → Same (or_refuse o (refusal.Wait None)) (waits_if (is_none o))
or_wait_is None = refl
or_wait_is (Some a) = refl

accepts_same : (k : ℕ) (t : SocketsRecord) → Same (accepts_tcp k t) (accept_ready k t)
unfolding accepts_tcp
accepts_same k t = same_then (accept_asked k t) _ _ (ends_bind (or_refuse (accepts_at k t) (refusal.Wait None)) _ (λ a. refl) ∙ or_wait_is (accepts_at k t))

pub accept_never_waits : (fd at size_at : ℕ) (s : Scene) → IfOk (accept_plan fd at size_at s) (λ a. Never (accepts a s))
accept_never_waits fd at size_at s =
    gives_bind (open_socket fd (local_of s)) _ _ (λ socket e. gives_bind (tcp_number socket.number) _ _ (λ k f. gives_bind (accept_place k at size_at s.task s.sockets) _ _
    (λ new g. gives_then (or_again socket.nonblocking (accept_ready k s.sockets)) _ _
    (λ u h. ends_bind (accepts_tcp k s.sockets) _ (λ a. refl) ∙ accepts_same k s.sockets ∙ ok_never socket.nonblocking (accept_ready k s.sockets) u h))))

-- connect(2) that is called again
connected_answers : (reply : Reply (Unit {0})) (s : Scene) → reaction_waits (Ok (connected reply, s)) ≡ false
connected_answers (Done done) s = refl
connected_answers (Failed errno) s = refl

connect_answers_is : (now : Time) (k : ℕ) (t : SocketsRecord) (w : Wanted) → Same (connect_answers now k t w) (connect_waited k t)
unfolding connect_answers
connect_answers_is now k t w = taking_is now k (without_change t w (connect_waited k t)) t w ∙ without_change_is t w (connect_waited k t)

connect_again_same : (now : Time) (k : ℕ) (s : Scene) → reaction_waits (connect_again now k s) ≡ waits_in (connect_waited k s.sockets)
connect_again_same now k s =
    reaction_bind (connect_answers now k s.sockets s.shared.outlet) _ (λ a. connected_answers a.0 _) ∙ connect_answers_is now k s.sockets s.shared.outlet

kept_branch : (o : Option Why) (why : Why) (x y : Result (Reaction × Scene) Refusal) → o ≡ Some why → reaction_waits (if is_some o then x else y) ≡ reaction_waits x
kept_branch None why x y e = cc
kept_branch (Some first) why x y e = refl

ready_branch : (o : Option Why) (why : Why) (r : Result (Unit {0}) Refusal) (u : Unit {0}) → o ≡ Some why → (if is_some o then kept_answers r else Ok tt) ≡ Ok u → Never r
ready_branch None why r u e h = cc
ready_branch (Some first) why r u e h = kept_never r u h

connect_call_never_waits : (hosts : List Ip) (now : Time) (nonblocking : Bool) (n : SocketNumber) (at size : ℕ) (s : Scene) (why : Why) (u : Unit {0}) → s.task.kept ≡ Some why
    → connect_ready n s ≡ Ok u → reaction_waits (connect_call hosts now nonblocking n at size s) ≡ false
connect_call_never_waits hosts now nonblocking (number.Udp k) at size s why u e ready = connect_udp_never hosts k at size s
connect_call_never_waits hosts now nonblocking (number.Tcp k) at size s why u e ready =
    kept_branch s.task.kept why _ _ e ∙ connect_again_same now k s ∙ ready_branch s.task.kept why (connect_waited k s.sockets) u e ready

pub connect_never_waits : (hosts : List Ip) (now : Time) (fd at size : ℕ) (s : Scene) (why : Why) → s.task.kept ≡ Some why
    → IfOk (connect_plan fd at size s) (λ c. reaction_waits (connects hosts now c s) ≡ false)
connect_never_waits hosts now fd at size s why e =
    gives_bind (open_socket fd (local_of s)) _ _ (λ socket f. gives_then (connect_ready socket.number s) _ _
    (λ u ready. connect_call_never_waits hosts now socket.nonblocking socket.number at size s why u e ready))

-- a span of so many bytes has so many
with_first_length : (b : Option ℕ) (o : Option (List ℕ)) (k : ℕ) → ((bytes : List ℕ) → o ≡ Some bytes → length bytes ≡ k) → (bytes : List ℕ) → with_first b o ≡ Some bytes → length bytes ≡ suc k
with_first_length (Some byte) (Some rest) k h bytes e = let same : bytes ≡ byte ∷ rest = cc in ap length same ∙ ap suc (h rest refl)
with_first_length (Some byte) None k h bytes e = cc
with_first_length None o k h bytes e = cc

read_length : (right : Right) (k : ℕ) (m : Memory) (a : ℕ) (bytes : List ℕ) → read right k m a ≡ Some bytes → length bytes ≡ k
read_length right zero m a bytes e = let same : bytes ≡ [] = cc in ap length same
read_length right (suc k) m a bytes e =
    with_first_length (byte_for right m.cells a) (read right k m (a + 1)) k (read_length right k m (a + 1)) bytes e

-- send(2)
sends_same : (hosts : List Ip) (now : Time) (k : ℕ) (bytes : List ℕ) (to : Option Addr) (quiet : Bool) (t : SocketsRecord) (w : Wanted)
    → Same (sends_taking hosts now k bytes to quiet t w) (send_asked hosts k (length bytes) to quiet t)
unfolding sends_taking
sends_same hosts now k bytes to quiet t w =
    taking_is now k (sends_bytes hosts now k bytes to quiet t w) t w ∙ ends_then (send_asked hosts k (length bytes) to quiet t) _ refl

send_tcp_never : (hosts : List Ip) (now : Time) (d : StreamSend) (s : Scene) → Never (send_asked hosts d.place (counted d.n) d.to d.quiet s.sockets) → Never (send_tcp hosts now d s)
send_tcp_never hosts now d s h =
    span_never (span (counted d.n) d.at s.task.memory) _ (λ bytes is. ends_bind (sends_taking hosts now d.place bytes d.to d.quiet s.sockets s.shared.outlet) _ (λ a. refl)
    ∙ sends_same hosts now d.place bytes d.to d.quiet s.sockets s.shared.outlet
    ∙ ap (λ (count : ℕ). waits_in (send_asked hosts d.place count d.to d.quiet s.sockets)) (read_length Read (counted d.n) s.task.memory d.at bytes is) ∙ h)

send_plan_of_never_waits : (hosts : List Ip) (now : Time) (n : SocketNumber) (nonblocking quiet : Bool) (message : Message) (s : Scene)
    → IfOk (send_plan_of hosts n nonblocking quiet message s.task.memory s.sockets) (λ m. Never (sends_by hosts now m s))
send_plan_of_never_waits hosts now (number.Udp k) nonblocking quiet message s = send_udp_never hosts k message s
send_plan_of_never_waits hosts now (number.Tcp k) nonblocking quiet message s =
    gives_then (refuse_if (not (can_read (counted message.n) message.at s.task.memory)) (refusal.Errno Efault)) _ _
    (λ u e. gives_bind (given_address message.to_at message.size s.task.memory) _ _ (λ to f.
    gives_then (or_again nonblocking (kept_answers (send_asked hosts k (counted message.n) to quiet s.sockets))) _ _
    (λ v g. send_tcp_never hosts now _ s (again_kept_never nonblocking (send_asked hosts k (counted message.n) to quiet s.sockets) v g))))

pub send_never_waits : (hosts : List Ip) (now : Time) (socket : OpenSocket) (flags : ℕ) (message : Message) (s : Scene)
    → IfOk (send_plan hosts socket flags message s.task.memory s.sockets) (λ m. Never (sends_by hosts now m s))
send_never_waits hosts now socket flags message s =
    gives_then (refuse_flags flags) _ _ (λ u e. send_plan_of_never_waits hosts now socket.number (is_quick socket.nonblocking flags) (has msg_nosignal flags) message s)

-- recv(2)
is_positive : (n : ℕ) → false ≡ not (nat_lt 0 (suc n))
is_positive n = grind (arith, nat_tests)

oldest_same : (u : UdpState) (waiting : List Datagram) (count : ℕ) → Same (oldest_datagram u waiting count) (waits_if (not (nat_lt 0 (length waiting))))
oldest_same u [] count = refl
oldest_same u (datagram ∷ behind) count = ap (λ (b : Bool). waits_in (waits_if b)) (is_positive (length behind))

receives_udp_same : (k count : ℕ) (t : SocketsRecord) → Same (receives_udp k count t) (recv_udp_asked k t)
unfolding receives_udp
receives_udp_same k count t =
    same_bind (or_refuse (udp_in k t) (refusal.Errno Ebadf)) _ _ (λ u. ends_bind (oldest_datagram u u.waiting count) _ (λ a. refl) ∙ oldest_same u u.waiting count)

receives_same : (now : Time) (k count : ℕ) (t : SocketsRecord) (w : Wanted) → Same (receives_taking now k count t w) (recv_asked k t)
unfolding receives_taking
receives_same now k count t w = taking_is now k (receives_bytes now k count t w) t w ∙ ends_then (recv_asked k t) _ refl

recv_by_never : (now : Time) (b : Bool) (n : SocketNumber) (at count : ℕ) (place : Option AddressPlace) (s : Scene) (u : Unit {0}) → or_again b (recv_ready n s.sockets) ≡ Ok u
    → Never (recv_by now n at count place s)
recv_by_never now b (number.Udp k) at count place s u h =
    ends_bind (receives_udp k (counted count) s.sockets) _ (λ a. refl) ∙ receives_udp_same k (counted count) s.sockets ∙ ok_never b (recv_udp_asked k s.sockets) u h
recv_by_never now b (number.Tcp k) at count place s u h =
    ends_bind (receives_taking now k (counted count) s.sockets s.shared.outlet) _ (λ a. refl) ∙ receives_same now k (counted count) s.sockets s.shared.outlet
    ∙ again_kept_never b (recv_asked k s.sockets) u h

pub recv_never_waits : (now : Time) (socket : OpenSocket) (flags : ℕ) (room : Room) (s : Scene) → IfOk (recv_plan socket flags room s.task.memory s.sockets) (λ r. Never (receives now r s))
recv_never_waits now socket flags room s =
    gives_then (refuse_flags flags) _ _ (λ u e. gives_bind (recv_place room s.task.memory) _ _ (λ place f.
    gives_then (or_again (is_quick socket.nonblocking flags) (recv_ready socket.number s.sockets)) _ _
    (λ v g. recv_by_never now (is_quick socket.nonblocking flags) socket.number room.at room.n place s v g)))
