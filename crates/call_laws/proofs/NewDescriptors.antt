-- A new descriptor is the least free one.
use Rattle.std.proofs.Common.{◌≡◌, ℕ, ◌+◌, ◌-◌, ◌==◌, ◌%◌, not, List, Option, Some, None, Result, Ok, Err, refl, sym, ap, ◌∙◌, ◌||◌, nat_lt}
use Rattle.sim_base.specs.declared.errno.Errno.TheVariants.{Eacces, Eafnosupport, Efault, Einval, Emfile, Enoent, Eprotonosupport}
use Rattle.sim_base.specs.Refusals.{◌>>=◌, refuse_if, or_refuse}
use Rattle.guest_args.specs.Span.{can_write}
use Rattle.host_fds.specs.Descriptors.{Descriptors, limit, IsLowestFree}
use Rattle.host_wants.specs.declared.error.Refusal.{Refusal}
use Rattle.host_wants.specs.declared.error.Refusal.TheVariants as refusal
use Rattle.host_sockets.specs.Accepting.{accept_asked, accept_ready, accepts_tcp}
use Rattle.host_sockets.specs.Sockets.{SocketsRecord}
use Rattle.host_calls.specs.declared.accepting.AcceptPlan.{AcceptPlan}
use Rattle.host_calls.specs.declared.accepting.NewPlace.{NewPlace}
use Rattle.call_parts.specs.declared.making.NewSocket.{NewSocket}
use Rattle.file_calls.specs.declared.files.Ends.{Ends}
use Rattle.call_parts.specs.declared.call.WaitingCall.TheVariants as waiting
use Rattle.file_calls.specs.declared.known.Known.{Known}
use Rattle.host_calls.specs.declared.parts.Reaction.{Reaction}
use Rattle.host_calls.specs.declared.parts.Reaction.TheVariants.{Value, Waits}
use Rattle.host_calls.specs.declared.plan.Plan.TheVariants as plan
use Rattle.sim_base.specs.declared.time.Time.{Time}
use Rattle.sim_base.proofs.RefusalLemmas.{bind_ok_by, then_ok}
use Rattle.host_calls.specs.Calls.{reacts, done, waiting_row}
use Rattle.call_parts.specs.Plain.{arg}
use Rattle.file_calls.specs.declared.task.Task.{Task}
use Rattle.file_calls.specs.declared.task.Shared.{Shared}
use Rattle.call_parts.specs.declared.sockets.OpenSocket.{OpenSocket}
use Rattle.file_calls.specs.Descriptors.{lowest_free, free_from}
use Rattle.file_calls.specs.Files.{path_length, is_hosts_path, openat_asked, openat, second_end, pipe2_asked}
use Rattle.file_calls.specs.Eventfd.{eventfd_asked, eventfd2}
use Rattle.file_calls.specs.EpollControl.{epoll_asked, epoll_create1}
use Rattle.file_calls.specs.Flags.{beside_cloexec, beside_open, beside_eventfd}
use Rattle.call_laws.specs.Laws.{IsFirstFree}
use Rattle.host_calls.specs.Parts.{Scene, local_of}
use Rattle.file_calls.specs.Scene.{Local, or_again}
use Rattle.guest_args.specs.Address.{inet}
use Rattle.call_parts.specs.Sockets.{is_stream, protocol_of, socket_asked, tcp_number, result_address, open_socket}
use Rattle.host_calls.specs.Sockets.{socket, accept_place, accept_plan_of, accept_plan, accepted_by, accepts}
use Rattle.file_calls.specs.Times.{create_asked, timerfd_create}
use Rattle.call_laws.proofs.DescriptorLaws.{first_free_IsFirstFree, lowest_free_IsLowestFree}

-- what answers wasn't refused on the way
or_refuse_ok : {A : Type 0} (o : Option A) (x : Refusal) (a : A) → or_refuse o x ≡ Ok a → o ≡ Some a
or_refuse_ok None x a e = cc
or_refuse_ok (Some b) x a e = cc

map_ok : {A B C : Type 0} (r : Result A Refusal) (g : A → B) (f : B → Result C Refusal) (c : C) (P : Type 0) → (r >>= λ a. Ok (g a)) >>= f ≡ Ok c
    → ((a : A) → r ≡ Ok a → f (g a) ≡ Ok c → P) → P
map_ok (Ok a) g f c P e k = k a refl e
map_ok (Err x) g f c P e k = let no : ⊥ = cc in absurd no

abbrev value_of : Result (Reaction × Scene) Refusal → ℕ
value_of (Ok (Value n, s)) = n
value_of (Ok (Waits, s)) = 0
value_of (Err x) = 0

reacts_ok : {A : Type 0} (r : Result A Refusal) (n fd : ℕ) (f : A → Scene) (after : Scene) → reacts (r >>= λ a. Ok (n, f a)) ≡ Ok (Value fd, after) → n ≡ fd
reacts_ok (Ok a) n fd f after e = ap value_of e
reacts_ok (Err x) n fd f after e = let no : ⊥ = cc in absurd no

abbrev answer_of : {S : Type 0} → Result (ℕ × S) Refusal → ℕ
answer_of (Ok (n, s)) = n
answer_of (Err x) = 0

abbrev socket_fd : Result NewSocket Refusal → ℕ
socket_fd (Ok new) = new.fd
socket_fd (Err x) = 0

abbrev place_fd : Result NewPlace Refusal → ℕ
place_fd (Ok new) = new.fd
place_fd (Err x) = 0

-- openat(2)
openat_asked_least : (path flags fd : ℕ) (task : Task) → openat_asked path flags task ≡ Ok fd → lowest_free task.table ≡ Some fd
openat_asked_least path flags fd task e =
    bind_ok_by (path_length path task.memory) _ fd (lowest_free task.table ≡ Some fd) e
    (λ count p q. or_refuse_ok (lowest_free task.table) (refusal.Errno Emfile) fd (then_ok (refuse_if (not (flags % 4 == 0)) (refusal.Errno Eacces)) _ fd
    (then_ok (refuse_if (not (is_hosts_path count path task.memory)) (refusal.Errno Enoent)) _ fd q)))

pub openat_least : (path flags fd : ℕ) (task : Task) (shared : Shared) (after : Local) → openat path flags (task, shared) ≡ Ok (fd, after) → IsLowestFree task.table fd
openat_least path flags fd task shared after e =
    bind_ok_by (openat_asked path flags task) _ (fd, after) (IsLowestFree task.table fd) e
    (λ n p q. lowest_free_IsLowestFree task.table fd (openat_asked_least path flags n task p ∙ ap (λ (k : ℕ). Some k) (ap (answer_of {S = Local}) q)))

-- timerfd_create(2)
create_asked_least : (clock flags fd : ℕ) (task : Task) → create_asked clock flags task ≡ Ok fd → lowest_free task.table ≡ Some fd
create_asked_least clock flags fd task e =
    or_refuse_ok (lowest_free task.table) (refusal.Errno Emfile) fd (then_ok (refuse_if (not (beside_open flags == 0)) (refusal.Errno Einval)) _ fd
    (then_ok (refuse_if (nat_lt 1 clock) (refusal.Errno Einval)) _ fd e))

pub timerfd_create_least : (clock flags fd : ℕ) (task : Task) (shared : Shared) (after : Local) → timerfd_create clock flags (task, shared) ≡ Ok (fd, after) → IsLowestFree task.table fd
timerfd_create_least clock flags fd task shared after e =
    bind_ok_by (create_asked clock flags task) _ (fd, after) (IsLowestFree task.table fd) e
    (λ n p q. lowest_free_IsLowestFree task.table fd (create_asked_least clock flags n task p ∙ ap (λ (k : ℕ). Some k) (ap (answer_of {S = Local}) q)))

-- eventfd(2)
eventfd_asked_least : (flags fd : ℕ) (task : Task) → eventfd_asked flags task ≡ Ok fd → lowest_free task.table ≡ Some fd
eventfd_asked_least flags fd task e =
    or_refuse_ok (lowest_free task.table) (refusal.Errno Emfile) fd (then_ok (refuse_if (not (beside_eventfd flags == 0)) (refusal.Errno Einval)) _ fd e)

pub eventfd2_least : (count flags fd : ℕ) (task : Task) (shared : Shared) (after : Local) → eventfd2 count flags (task, shared) ≡ Ok (fd, after) → IsLowestFree task.table fd
eventfd2_least count flags fd task shared after e =
    bind_ok_by (eventfd_asked flags task) _ (fd, after) (IsLowestFree task.table fd) e
    (λ n p q. lowest_free_IsLowestFree task.table fd (eventfd_asked_least flags n task p ∙ ap (λ (k : ℕ). Some k) (ap (answer_of {S = Local}) q)))

-- epoll_create(2)
epoll_asked_least : (flags fd : ℕ) (task : Task) → epoll_asked flags task ≡ Ok fd → lowest_free task.table ≡ Some fd
epoll_asked_least flags fd task e =
    or_refuse_ok (lowest_free task.table) (refusal.Errno Emfile) fd (then_ok (refuse_if (not (beside_cloexec flags == 0)) (refusal.Errno Einval)) _ fd e)

pub epoll_create1_least : (flags fd : ℕ) (task : Task) (shared : Shared) (after : Local) → epoll_create1 flags (task, shared) ≡ Ok (fd, after) → IsLowestFree task.table fd
epoll_create1_least flags fd task shared after e =
    bind_ok_by (epoll_asked flags task) _ (fd, after) (IsLowestFree task.table fd) e
    (λ n p q. lowest_free_IsLowestFree task.table fd (epoll_asked_least flags n task p ∙ ap (λ (k : ℕ). Some k) (ap (answer_of {S = Local}) q)))

-- socket(2)
socket_asked_least : (family type protocol : ℕ) (task : Task) (new : NewSocket) → socket_asked family type protocol task ≡ Ok new → lowest_free task.table ≡ Some new.fd
socket_asked_least family type protocol task new e =
    bind_ok_by (is_stream (beside_open type)) _ new (lowest_free task.table ≡ Some new.fd) (then_ok (refuse_if (not (family == inet)) (refusal.Errno Eafnosupport)) _ new e)
    (λ stream p q. bind_ok_by (or_refuse (lowest_free task.table) (refusal.Errno Emfile)) _ new (lowest_free task.table ≡ Some new.fd)
    (then_ok (refuse_if (not (protocol == 0 || protocol == protocol_of stream)) (refusal.Errno Eprotonosupport)) _ new q)
    (λ fd p' q'. or_refuse_ok (lowest_free task.table) (refusal.Errno Emfile) fd p' ∙ ap (λ (k : ℕ). Some k) (ap socket_fd q')))

pub socket_least : (family type protocol fd : ℕ) (s after : Scene) → socket family type protocol s ≡ Ok (fd, after) → IsLowestFree s.task.table fd
socket_least family type protocol fd s after e =
    bind_ok_by (socket_asked family type protocol s.task) _ (fd, after) (IsLowestFree s.task.table fd) e
    (λ new p q. lowest_free_IsLowestFree s.task.table fd (socket_asked_least family type protocol s.task new p ∙ ap (λ (k : ℕ). Some k) (ap (answer_of {S = Scene}) q)))

-- accept(2)
accept_place_least : (k at size_at : ℕ) (task : Task) (t : SocketsRecord) (new : NewPlace) → accept_place k at size_at task t ≡ Ok new → lowest_free task.table ≡ Some new.fd
accept_place_least k at size_at task t new e =
    bind_ok_by (result_address at size_at task.memory) _ new (lowest_free task.table ≡ Some new.fd) (then_ok (accept_asked k t) _ new e)
    (λ place p q. bind_ok_by (or_refuse (lowest_free task.table) (refusal.Errno Emfile)) _ new (lowest_free task.table ≡ Some new.fd) q
    (λ fd p' q'. or_refuse_ok (lowest_free task.table) (refusal.Errno Emfile) fd p' ∙ ap (λ (n : ℕ). Some n) (ap place_fd q')))

abbrev plan_fd : Result AcceptPlan Refusal → ℕ
plan_fd (Ok a) = a.new.fd
plan_fd (Err x) = 0

accept_plan_of_least : (o : OpenSocket) (at size_at : ℕ) (task : Task) (t : SocketsRecord) (a : AcceptPlan) → accept_plan_of o at size_at task t ≡ Ok a → lowest_free task.table ≡ Some a.new.fd
accept_plan_of_least o at size_at task t a e =
    bind_ok_by (tcp_number o.number) _ a (lowest_free task.table ≡ Some a.new.fd) e
    (λ k p q. bind_ok_by (accept_place k at size_at task t) _ a (lowest_free task.table ≡ Some a.new.fd) q
    (λ new p' q'. accept_place_least k at size_at task t new p' ∙ ap (λ (n : ℕ). Some n) (ap plan_fd (then_ok (or_again o.nonblocking (accept_ready k t)) _ a q'))))

accept_plan_least : (from at size_at : ℕ) (s : Scene) (a : AcceptPlan) → accept_plan from at size_at s ≡ Ok a → lowest_free s.task.table ≡ Some a.new.fd
accept_plan_least from at size_at s a e =
    bind_ok_by (open_socket from (local_of s)) _ a (lowest_free s.task.table ≡ Some a.new.fd) e (λ o p q. accept_plan_of_least o at size_at s.task s.sockets a q)

accepts_fd : (a : AcceptPlan) (fd : ℕ) (s after : Scene) → reacts (accepts a s) ≡ Ok (Value fd, after) → a.new.fd ≡ fd
accepts_fd a fd s after e =
    reacts_ok (accepts_tcp a.listener s.sockets) a.new.fd fd (λ x. accepted_by a.new x.0 x.1 s) after e

pub accept_least : (known : Known) (now : Time) (process : ℕ) (args : List ℕ) (fd : ℕ) (s after : Scene) → waiting_row known now process waiting.Accept args s ≡ Ok (Value fd, after)
    → IsLowestFree s.task.table fd
accept_least known now process args fd s after e =
    map_ok (accept_plan (arg args 0) (arg args 1) (arg args 2) s) (λ a. plan.Accept a) (λ p. done known now process p s) (Value fd, after) (IsLowestFree s.task.table fd) e
    (λ a p q. lowest_free_IsLowestFree s.task.table fd
    (accept_plan_least (arg args 0) (arg args 1) (arg args 2) s a p ∙ ap (λ (n : ℕ). Some n) (accepts_fd a fd s after q)))

-- pipe(2)
abbrev reading_of : Result Ends Refusal → ℕ
reading_of (Ok fds) = fds.reading
reading_of (Err x) = 0

abbrev writing_of : Result Ends Refusal → ℕ
writing_of (Ok fds) = fds.writing
writing_of (Err x) = 0

second_end_reading : (reading : ℕ) (table : Descriptors) (fds : Ends) → second_end reading table ≡ Ok fds → reading ≡ fds.reading
second_end_reading reading table fds e =
    bind_ok_by (or_refuse (free_from table (reading + 1)) (refusal.Errno Emfile)) _ fds (reading ≡ fds.reading) e (λ writing p q. ap reading_of q)

second_end_writing : (reading : ℕ) (table : Descriptors) (fds : Ends) → second_end reading table ≡ Ok fds → free_from table (reading + 1) ≡ Some fds.writing
second_end_writing reading table fds e =
    bind_ok_by (or_refuse (free_from table (reading + 1)) (refusal.Errno Emfile)) _ fds (free_from table (reading + 1) ≡ Some fds.writing) e
    (λ writing p q. or_refuse_ok (free_from table (reading + 1)) (refusal.Errno Emfile) writing p ∙ ap (λ (n : ℕ). Some n) (ap writing_of q))

pub pipe2_reading : (at flags : ℕ) (task : Task) (fds : Ends) → pipe2_asked at flags task ≡ Ok fds → IsLowestFree task.table fds.reading
pipe2_reading at flags task fds e =
    bind_ok_by (or_refuse (lowest_free task.table) (refusal.Errno Emfile)) _ fds (IsLowestFree task.table fds.reading)
    (then_ok (refuse_if (not (can_write 8 at task.memory)) (refusal.Errno Efault)) _ fds (then_ok (refuse_if (not (beside_open flags == 0)) (refusal.Errno Einval)) _ fds e))
    (λ reading p q. lowest_free_IsLowestFree task.table fds.reading
    (or_refuse_ok (lowest_free task.table) (refusal.Errno Emfile) reading p ∙ ap (λ (n : ℕ). Some n) (second_end_reading reading task.table fds q)))

pub pipe2_writing : (at flags : ℕ) (task : Task) (fds : Ends) → pipe2_asked at flags task ≡ Ok fds
    → IsFirstFree task.table (fds.reading + 1) (limit - (fds.reading + 1)) fds.writing
pipe2_writing at flags task fds e =
    bind_ok_by (or_refuse (lowest_free task.table) (refusal.Errno Emfile)) _ fds (IsFirstFree task.table (fds.reading + 1) (limit - (fds.reading + 1)) fds.writing)
    (then_ok (refuse_if (not (can_write 8 at task.memory)) (refusal.Errno Efault)) _ fds (then_ok (refuse_if (not (beside_open flags == 0)) (refusal.Errno Einval)) _ fds e))
    (λ reading p q. first_free_IsFirstFree task.table (fds.reading + 1) (limit - (fds.reading + 1)) fds.writing
    (ap (λ (n : ℕ). free_from task.table (n + 1)) (sym (second_end_reading reading task.table fds q)) ∙ second_end_writing reading task.table fds q))
