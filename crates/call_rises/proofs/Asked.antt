-- what questions give: a descriptor that is free, an entry of an open one, an open file as it is named
use Rattle.std.proofs.Common.{◌≡◌, ℕ, zero, suc, ◌+◌, ◌-◌, ◌*◌, ◌%◌, ◌==◌, ◌≤◌, ◌||◌, Bool, true, not, List, Option, Some, None, is_some, Result, Ok, Err, nat_lt, if◌then◌else◌, refl, sym, subst, arith}
use Rattle.std.specs.Prelude.{is_none}
use Rattle.std.specs.FinMap as map
use Rattle.sim_base.specs.Refusals.{refuse_if, or_refuse}
use Rattle.sim_base.specs.declared.errno.Errno.TheVariants.{Eacces, Eafnosupport, Eexist, Efault, Einval, Emfile, Enoent, Eprotonosupport}
use Rattle.sim_base.specs.declared.time.Time.{Time}
use Rattle.guest_mem.specs.Memory.{Memory}
use Rattle.guest_args.specs.Address.{inet}
use Rattle.guest_args.specs.Span.{counted, can_write, int_size, span}
use Rattle.host_timers.specs.Clock.{clock_monotonic}
use Rattle.host_fds.specs.declared.file_id.FileId.{FileId}
use Rattle.host_fds.specs.declared.epoll.Watch.{Watch}
use Rattle.host_fds.specs.Descriptors.{Descriptors, limit}
use Rattle.host_files.specs.declared.file.Object.{Object}
use Rattle.host_files.specs.Epolls.{epoll_at}
use Rattle.host_files.specs.Slots.{at}
use Rattle.host_wants.specs.declared.error.Refusal.{Refusal}
use Rattle.host_wants.specs.declared.error.Refusal.TheVariants.{Errno}
use Rattle.host_sockets.specs.Accepting.{accept_asked, accept_ready}
use Rattle.host_sockets.specs.Sockets.{SocketsRecord}
use Rattle.file_calls.specs.declared.controlling.Change.{Change}
use Rattle.file_calls.specs.declared.controlling.Change.TheVariants.{Put, Remove}
use Rattle.file_calls.specs.declared.controlling.Control.{Control}
use Rattle.file_calls.specs.declared.controlling.Operation.{Operation}
use Rattle.file_calls.specs.declared.controlling.Operation.TheVariants as operation
use Rattle.file_calls.specs.declared.descriptors.Descriptor.{Descriptor}
use Rattle.file_calls.specs.declared.task.Shared.{Shared}
use Rattle.file_calls.specs.declared.task.Task.{Task}
use Rattle.file_calls.specs.declared.transfer.Transfer.{Transfer}
use Rattle.file_calls.specs.Descriptors.{first_free, free_from, lowest_free, descriptor}
use Rattle.file_calls.specs.EpollControl.{epoll_asked, epoll_number, operation_of, may_watch, event_size, events_in, watch_of, watch_at, has_entry, change_of, watched, ctl_asked}
use Rattle.file_calls.specs.Eventfd.{eventfd_asked}
use Rattle.file_calls.specs.Files.{path_length, is_hosts_path, openat_asked, second_end, pipe2_asked, may_read, wait_to_read, transfer, file_read_plan, file_write_plan}
use Rattle.file_calls.specs.Flags.{beside_cloexec, beside_epoll, beside_eventfd, beside_open}
use Rattle.file_calls.specs.Numbers.{o_rdonly, o_accmode}
use Rattle.file_calls.specs.Scene.{or_again}
use Rattle.file_calls.specs.Times.{create_asked, sleep_asked}
use Rattle.host_calls.specs.declared.accepting.AcceptPlan.{AcceptPlan}
use Rattle.host_calls.specs.declared.accepting.NewPlace.{NewPlace}
use Rattle.call_parts.specs.declared.making.NewSocket.{NewSocket}
use Rattle.call_parts.specs.declared.call.WaitingCall.{WaitingCall}
use Rattle.call_parts.specs.declared.call.WaitingCall.TheVariants as waiting
use Rattle.file_calls.specs.declared.known.Known.{Known}
use Rattle.host_calls.specs.declared.plan.Plan.{Plan}
use Rattle.host_calls.specs.declared.plan.Plan.TheVariants as plan
use Rattle.call_parts.specs.declared.sockets.SocketNumber.{SocketNumber}
use Rattle.host_calls.specs.Calls.{message_of, room_of, open_by, read_plan_of, write_plan_of, asked}
use Rattle.call_parts.specs.Plain.{arg}
use Rattle.host_calls.specs.Epoll.{wait_plan}
use Rattle.host_calls.specs.Parts.{Scene, local_of}
use Rattle.host_calls.specs.Polling.{poll_plan}
use Rattle.call_parts.specs.Sockets.{socket_number, open_socket, tcp_number, result_address, is_stream, protocol_of, socket_asked}
use Rattle.host_calls.specs.Sockets.{accept_place, accept_plan, connect_plan, send_plan, sendto_plan, recv_plan, recvfrom_plan}
use Rattle.call_rises.proofs.Moving.{Gives, given, given_by, given_after, given_some}
use Rattle.call_rises.proofs.Opening.{AreFree}
use Rattle.call_rises.proofs.Views.{descriptor_named, is_there_of}

-- the least free number
first_is_free : (fds : Descriptors) (from count fd : ℕ) → first_free fds from count ≡ Some fd → map.get fds fd ≡ None
unfolding first_free
first_is_free fds from zero fd e = cc
first_is_free fds from (suc count) fd e =
    by_first (map.get fds from) refl (λ later. first_is_free fds (from + 1) count fd later) e
  where
    by_first : (o : Option FileId) → map.get fds from ≡ o → (first_free fds (from + 1) count ≡ Some fd → map.get fds fd ≡ None) → (if is_none o then Some from else first_free fds (from + 1) count) ≡ Some fd → map.get fds fd ≡ None
    by_first None there later e =
        let same : from ≡ fd = cc in subst (λ (n : ℕ). map.get fds n ≡ None) same there
    by_first (Some id) there later e = later e

first_is_behind : (fds : Descriptors) (from count fd : ℕ) → first_free fds from count ≡ Some fd → from ≤ fd
unfolding first_free
first_is_behind fds from zero fd e = cc
first_is_behind fds from (suc count) fd e =
    by_first (map.get fds from) (λ later. first_is_behind fds (from + 1) count fd later) e
  where
    by_first : (o : Option FileId) → (first_free fds (from + 1) count ≡ Some fd → from + 1 ≤ fd) → (if is_none o then Some from else first_free fds (from + 1) count) ≡ Some fd → from ≤ fd
    by_first None later e = let same : from ≡ fd = cc in omega (arith, same)
    by_first (Some id) later e = let behind = later e in omega (arith, behind)

abbrev pub IsFreeIn : Task → ℕ → Type 0
IsFreeIn task fd = map.get task.table fd ≡ None

least_free : (task : Task) (why : Refusal) → Gives (IsFreeIn task) (or_refuse (lowest_free task.table) why)
least_free task why =
    given_some (IsFreeIn task) (lowest_free task.table) why (λ fd e. first_is_free task.table 0 _ fd e)

pub openat_free : (path flags : ℕ) (task : Task) → Gives (IsFreeIn task) (openat_asked path flags task)
openat_free path flags task =
    given_by (IsFreeIn task) (path_length path task.memory) _
    (λ count e.
    given_after (IsFreeIn task) (refuse_if (not (is_hosts_path count path task.memory)) (Errno Enoent)) _
    (given_after (IsFreeIn task) (refuse_if (not (flags % (o_accmode + 1) == o_rdonly)) (Errno Eacces)) _ (least_free task (Errno Emfile))))

pub create_free : (clock flags : ℕ) (task : Task) → Gives (IsFreeIn task) (create_asked clock flags task)
create_free clock flags task =
    given_after (IsFreeIn task) (refuse_if (nat_lt clock_monotonic clock) (Errno Einval)) _
    (given_after (IsFreeIn task) (refuse_if (not (beside_open flags == 0)) (Errno Einval)) _ (least_free task (Errno Emfile)))

pub eventfd_free : (flags : ℕ) (task : Task) → Gives (IsFreeIn task) (eventfd_asked flags task)
eventfd_free flags task =
    given_after (IsFreeIn task) (refuse_if (not (beside_eventfd flags == 0)) (Errno Einval)) _ (least_free task (Errno Emfile))

pub epoll_free : (flags : ℕ) (task : Task) → Gives (IsFreeIn task) (epoll_asked flags task)
epoll_free flags task =
    given_after (IsFreeIn task) (refuse_if (not (beside_cloexec flags == 0)) (Errno Einval)) _ (least_free task (Errno Emfile))

second_free : (reading : ℕ) (task : Task) → IsFreeIn task reading → Gives (AreFree task.table) (second_end reading task.table)
second_free reading task free =
    given_by (AreFree task.table) (or_refuse (free_from task.table (reading + 1)) (Errno Emfile)) _
    (λ writing e.
    let is = (given_some (λ (n : ℕ). free_from task.table (reading + 1) ≡ Some n) (free_from task.table (reading + 1)) (Errno Emfile) (λ n q. q)).gives writing e in
    let behind = first_is_behind task.table (reading + 1) (limit - (reading + 1)) writing is in
    given (AreFree task.table) (record { reading = reading; writing = writing })
    (record {
      reading = free;
      writing = first_is_free task.table (reading + 1) (limit - (reading + 1)) writing is;
      apart = λ same. omega (arith, behind, same);
    }))

pub pipe_free : (place flags : ℕ) (task : Task) → Gives (AreFree task.table) (pipe2_asked place flags task)
pipe_free place flags task =
    given_after (AreFree task.table) (refuse_if (not (beside_open flags == 0)) (Errno Einval)) _
    (given_after (AreFree task.table) (refuse_if (not (can_write (2 * int_size) place task.memory)) (Errno Efault)) _
    (given_by (AreFree task.table) (or_refuse (lowest_free task.table) (Errno Emfile)) _
    (λ reading e. second_free reading task ((least_free task (Errno Emfile)).gives reading e))))

abbrev pub SocketIsFree : Task → NewSocket → Type 0
SocketIsFree task new = map.get task.table new.fd ≡ None

pub socket_free : (family type protocol : ℕ) (task : Task) → Gives (SocketIsFree task) (socket_asked family type protocol task)
socket_free family type protocol task =
    given_after (SocketIsFree task) (refuse_if (not (family == inet)) (Errno Eafnosupport)) _
    (given_by (SocketIsFree task) (is_stream (beside_open type)) _
    (λ stream e.
    given_after (SocketIsFree task) (refuse_if (not (protocol == 0 || protocol == protocol_of stream)) (Errno Eprotonosupport)) _
    (given_by (SocketIsFree task) (or_refuse (lowest_free task.table) (Errno Emfile)) _
    (λ fd f. given (SocketIsFree task) (record { stream = stream; fd = fd }) ((least_free task (Errno Emfile)).gives fd f)))))

-- epoll_ctl(2)
abbrev pub ChangeFits : Descriptors → Change → Type 0
ChangeFits table (Put w) = (is_some (map.get table w.fd) ≡ true) × (w.reported ≡ None)
ChangeFits table (Remove fd) = Unit {0}

abbrev IsOf : ℕ → Watch → Type 0
IsOf fd w = (w.fd ≡ fd) × (w.reported ≡ None)

watch_is : (fd place : ℕ) (memory : Memory) → Gives (IsOf fd) (watch_at fd place memory)
watch_is fd place memory =
    given_by (IsOf fd) (or_refuse (span event_size place memory) (Errno Efault)) _
    (λ bytes e.
    given_after (IsOf fd) (refuse_if (not (beside_epoll (events_in bytes) == 0)) (Errno Einval)) _
    (given (IsOf fd) (watch_of fd bytes) (refl, refl)))

put_fits : (table : Descriptors) (fd : ℕ) (w : Watch) → is_some (map.get table fd) ≡ true → IsOf fd w → ChangeFits table (Put w)
put_fits table fd w is_open is = (subst (λ (n : ℕ). is_some (map.get table n) ≡ true) (sym is.0) is_open, is.1)

change_fits : (table : Descriptors) (does : Operation) (fd place : ℕ) (there : Bool) (memory : Memory) → is_some (map.get table fd) ≡ true → Gives (ChangeFits table) (change_of does fd place there memory)
change_fits table operation.Add fd place there memory is_open =
    given_by (ChangeFits table) (watch_at fd place memory) _
    (λ w e.
    given_after (ChangeFits table) (refuse_if there (Errno Eexist)) _
    (given (ChangeFits table) (Put w) (put_fits table fd w is_open ((watch_is fd place memory).gives w e))))
change_fits table operation.Modify fd place there memory is_open =
    given_by (ChangeFits table) (watch_at fd place memory) _
    (λ w e.
    given_after (ChangeFits table) (refuse_if (not there) (Errno Enoent)) _
    (given (ChangeFits table) (Put w) (put_fits table fd w is_open ((watch_is fd place memory).gives w e))))
change_fits table operation.Delete fd place there memory is_open =
    given_after (ChangeFits table) (refuse_if (not there) (Errno Enoent)) _ (given (ChangeFits table) (Remove fd) tt)

abbrev ControlFits : Descriptors → Control → Type 0
ControlFits table c = ChangeFits table c.change

abbrev IsOpen : Task → ℕ → ℕ × Object → Type 0
IsOpen task fd p = is_some (map.get task.table fd) ≡ true

watched_open : (epfd fd : ℕ) (task : Task) (shared : Shared) → Gives (IsOpen task fd) (watched epfd fd (task, shared))
watched_open epfd fd task shared =
    given_by (IsOpen task fd) (descriptor epfd task shared.files) _
    (λ d e.
    given_by (IsOpen task fd) (descriptor fd task shared.files) _
    (λ b f.
    let is_open = is_there_of (map.get task.table fd) b.id (descriptor_named (map.get task.table fd) shared.files b f).0 in
    given_by (IsOpen task fd) (epoll_number d.file.object) _
    (λ k g.
    given_after (IsOpen task fd) (refuse_if (epfd == fd) (Errno Einval)) _ (given (IsOpen task fd) (k, b.file.object) is_open))))

pub ctl_fits : (epfd op fd place : ℕ) (task : Task) (shared : Shared) → Gives (ControlFits task.table) (ctl_asked epfd op fd place (task, shared))
ctl_fits epfd op fd place task shared =
    given_by (ControlFits task.table) (watched epfd fd (task, shared)) _
    (λ p e.
    let is_open = (watched_open epfd fd task shared).gives p e in
    given_by (ControlFits task.table) (operation_of op) _
    (λ does f.
    let there = has_entry fd (epoll_at p.0 task.epolls) in
    given_after (ControlFits task.table) (may_watch p.1) _
    (given_by (ControlFits task.table) (change_of does fd place there task.memory) _
    (λ change g.
    given (ControlFits task.table) (record { place = p.0; change = change }) ((change_fits task.table does fd place there task.memory is_open).gives change g)))))

-- calls that may wait
abbrev pub PlanFits : Scene → Plan → Type 0
PlanFits s (plan.Read t) = at t.d.id.number s.shared.files.files ≡ Some t.d.file
PlanFits s (plan.Accept a) = map.get s.task.table a.new.fd ≡ None
PlanFits s (plan.Write t) = Unit {0}
PlanFits s (plan.Connect c) = Unit {0}
PlanFits s (plan.Send m) = Unit {0}
PlanFits s (plan.Receive r) = Unit {0}
PlanFits s plan.Sleep = Unit {0}
PlanFits s (plan.Poll p) = Unit {0}
PlanFits s (plan.EpollWait p) = Unit {0}

abbrev IsOfFile : Descriptor → Transfer → Type 0
IsOfFile d t = d ≡ t.d

read_is : (now : Time) (d : Descriptor) (place n : ℕ) (task : Task) (shared : Shared) → Gives (IsOfFile d) (file_read_plan now d place n (task, shared))
read_is now d place n task shared =
    given_after (IsOfFile d) (may_read d.file.object n) _
    (given_after (IsOfFile d) (refuse_if (not (can_write (counted n) place task.memory)) (Errno Efault)) _
    (given_after (IsOfFile d) (or_again d.file.nonblocking (wait_to_read now d.file.object shared.files)) _ (given (IsOfFile d) (transfer d place n) refl)))

read_fits_by : (now : Time) (d : Descriptor) (o : Result SocketNumber Refusal) (place n : ℕ) (s : Scene) → at d.id.number s.shared.files.files ≡ Some d.file → Gives (PlanFits s) (read_plan_of now d o place n s)
read_fits_by now d (Ok socket) place n s named =
    given_by (PlanFits s) (recv_plan (open_by d socket) 0 (room_of place n 0 0) s.task.memory s.sockets) _ (λ r e. given (PlanFits s) (plan.Receive r) tt)
read_fits_by now d (Err why) place n s named =
    given_by (PlanFits s) (file_read_plan now d place n (local_of s)) _
    (λ t e.
    given (PlanFits s) (plan.Read t)
    (subst (λ (b : Descriptor). at b.id.number s.shared.files.files ≡ Some b.file) ((read_is now d place n s.task s.shared).gives t e) named))

write_fits_by : (known : Known) (d : Descriptor) (o : Result SocketNumber Refusal) (place n : ℕ) (s : Scene) → Gives (PlanFits s) (write_plan_of known d o place n s)
write_fits_by known d (Ok socket) place n s =
    given_by (PlanFits s) (send_plan known.book (open_by d socket) 0 (message_of place n 0 0) s.task.memory s.sockets) _ (λ m e. given (PlanFits s) (plan.Send m) tt)
write_fits_by known d (Err why) place n s =
    given_by (PlanFits s) (file_write_plan d place n (local_of s)) _ (λ t e. given (PlanFits s) (plan.Write t) tt)

abbrev PlaceIsFree : Task → NewPlace → Type 0
PlaceIsFree task new = map.get task.table new.fd ≡ None

place_free : (k place size_at : ℕ) (task : Task) (t : SocketsRecord) → Gives (PlaceIsFree task) (accept_place k place size_at task t)
place_free k place size_at task t =
    given_after (PlaceIsFree task) (accept_asked k t) _
    (given_by (PlaceIsFree task) (result_address place size_at task.memory) _
    (λ p e.
    given_by (PlaceIsFree task) (or_refuse (lowest_free task.table) (Errno Emfile)) _
    (λ fd f. given (PlaceIsFree task) (record { fd = fd; place = p }) ((least_free task (Errno Emfile)).gives fd f))))

abbrev AcceptIsFree : Task → AcceptPlan → Type 0
AcceptIsFree task a = map.get task.table a.new.fd ≡ None

accept_free : (fd place size_at : ℕ) (s : Scene) → Gives (AcceptIsFree s.task) (accept_plan fd place size_at s)
accept_free fd place size_at s =
    given_by (AcceptIsFree s.task) (open_socket fd (local_of s)) _
    (λ socket e.
    given_by (AcceptIsFree s.task) (tcp_number socket.number) _
    (λ k f.
    given_by (AcceptIsFree s.task) (accept_place k place size_at s.task s.sockets) _
    (λ new g.
    given_after (AcceptIsFree s.task) (or_again socket.nonblocking (accept_ready k s.sockets)) _
    (given (AcceptIsFree s.task) (record { listener = k; new = new }) ((place_free k place size_at s.task s.sockets).gives new g)))))

pub asked_fits : (known : Known) (now : Time) (w : WaitingCall) (args : List ℕ) (s : Scene) → Gives (PlanFits s) (asked known now w args s)
asked_fits known now waiting.Read args s =
    given_by (PlanFits s) (descriptor (arg args 0) s.task s.shared.files) _
    (λ d e. read_fits_by now d (socket_number d.file.object) (arg args 1) (arg args 2) s (descriptor_named (map.get s.task.table (arg args 0)) s.shared.files d e).1)
asked_fits known now waiting.Write args s =
    given_by (PlanFits s) (descriptor (arg args 0) s.task s.shared.files) _
    (λ d e. write_fits_by known d (socket_number d.file.object) (arg args 1) (arg args 2) s)
asked_fits known now waiting.Accept args s =
    given_by (PlanFits s) (accept_plan (arg args 0) (arg args 1) (arg args 2) s) _
    (λ a e. given (PlanFits s) (plan.Accept a) ((accept_free (arg args 0) (arg args 1) (arg args 2) s).gives a e))
asked_fits known now waiting.Connect args s =
    given_by (PlanFits s) (connect_plan (arg args 0) (arg args 1) (arg args 2) s) _ (λ c e. given (PlanFits s) (plan.Connect c) tt)
asked_fits known now waiting.Sendto args s =
    given_by (PlanFits s) (sendto_plan known.book (arg args 0) (arg args 3) (message_of (arg args 1) (arg args 2) (arg args 4) (arg args 5)) s) _ (λ m e. given (PlanFits s) (plan.Send m) tt)
asked_fits known now waiting.Recvfrom args s =
    given_by (PlanFits s) (recvfrom_plan (arg args 0) (arg args 3) (room_of (arg args 1) (arg args 2) (arg args 4) (arg args 5)) s) _ (λ r e. given (PlanFits s) (plan.Receive r) tt)
asked_fits known now waiting.ClockNanosleep args s =
    given_after (PlanFits s) (sleep_asked now (arg args 0) (arg args 1) (arg args 2) s.task) _ (given (PlanFits s) plan.Sleep tt)
asked_fits known now waiting.Ppoll args s =
    given_by (PlanFits s) (poll_plan now (arg args 0) (arg args 1) (arg args 2) s) _ (λ p e. given (PlanFits s) (plan.Poll p) tt)
asked_fits known now waiting.EpollWait args s =
    given_by (PlanFits s) (wait_plan now (arg args 0) (arg args 1) (arg args 2) (arg args 3) s) _ (λ p e. given (PlanFits s) (plan.EpollWait p) tt)
