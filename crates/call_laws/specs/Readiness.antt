-- What readiness has to do with which calls would answer.
use Rattle.std.specs.Prelude.{◌≡◌, ℕ, ◌<◌, ◌==◌, ◌||◌, Bool, true, false, not, List, All, length, slice_get, Option, Some, None, IsSome, Result, Ok, Err}
use Rattle.sim_base.specs.declared.time.Time.{Time}
use Rattle.sim_base.specs.Poll.{pollin, pollout}
use Rattle.host_fds.specs.declared.eventfd.Eventfd.{Eventfd}
use Rattle.host_fds.specs.Eventfd.{has_room}
use Rattle.host_fds.specs.Pipe.{PipeState}
use Rattle.host_files.specs.declared.file.Object.{Object}
use Rattle.host_files.specs.declared.file.Object.TheVariants as kind
use Rattle.host_files.specs.Files.{pipe_at, eventfd_at}
use Rattle.sock_tcp.specs.segment.State.{is_over, is_syn_sent, is_syn_received}
use Rattle.sock_tcp.specs.connection.Tcb.{Tcb}
use Rattle.sock_tcp.specs.listener.Listen.{Listen}
use Rattle.host_wants.specs.declared.error.Refusal.{Refusal}
use Rattle.host_wants.specs.declared.error.Refusal.TheVariants as refusal
use Rattle.host_sockets.specs.Sockets.{SocketsRecord, tcb_at}
use Rattle.host_sockets.specs.TcpSocket.{TcpSocket}
use Rattle.host_sockets.specs.Udp.{udp_in}
use Rattle.call_parts.specs.declared.call.Call.TheVariants as system_call
use Rattle.call_parts.specs.declared.call.WaitingCall.{WaitingCall}
use Rattle.file_calls.specs.declared.descriptors.Descriptor.{Descriptor}
use Rattle.file_calls.specs.declared.known.Known.{Known}
use Rattle.file_calls.specs.declared.task.Why.{Why}
use Rattle.host_calls.specs.declared.plan.Plan.{Plan}
use Rattle.call_parts.specs.Call.{call_of}
use Rattle.host_calls.specs.Calls.{asked, answers_scene}
use Rattle.call_parts.specs.Plain.{arg}
use Rattle.file_calls.specs.Descriptors.{descriptor}
use Rattle.call_parts.specs.Epoll.{wait_deadline}
use Rattle.file_calls.specs.Eventfd.{number_at}
use Rattle.file_calls.specs.Flags.{has}
use Rattle.host_calls.specs.Parts.{Scene}
use Rattle.call_parts.specs.Polling.{has_come}
use Rattle.host_calls.specs.Ready.{readiness}

-- a call that answers an error number without being asked what it waits for, and without having tried what it would do
abbrev pub is_refused : Result Plan Refusal → Bool
is_refused (Err (refusal.Errno errno)) = true
is_refused _ = false

-- whether poll(2) would tell a bit of an object
abbrev pub is_ready : ℕ → Time → Object → Scene → Bool
is_ready bit now object s = has bit (readiness now object s)

-- ends of which readiness tells by other bits: of a pipe, that the other end is let go, and of a TCP socket, that its record is over
abbrev pub has_no_writer : Option PipeState → Bool
has_no_writer None = false
has_no_writer (Some p) = not p.has_writer

abbrev pub has_no_reader : Option PipeState → Bool
has_no_reader None = false
has_no_reader (Some p) = not p.has_reader

abbrev pub record_is_over : Option Tcb → Bool
record_is_over None = false
record_is_over (Some r) = is_over r.control.state

abbrev pub reading_ended : Object → Scene → Bool
reading_ended (kind.ReadEnd k) s = has_no_writer (pipe_at k s.shared.files)
reading_ended (kind.Tcp k) s = record_is_over (tcb_at k s.sockets)
reading_ended _ s = false

abbrev pub writing_ended : Object → Scene → Bool
writing_ended (kind.WriteEnd k) s = has_no_reader (pipe_at k s.shared.files)
writing_ended (kind.Tcp k) s = record_is_over (tcb_at k s.sockets)
writing_ended _ s = false

-- read(2) and recvfrom(2)
abbrev pub would_read : List ℕ → Time → Object → Scene → Bool
would_read args now object s = is_ready pollin now object s || reading_ended object s

-- accept(2)
abbrev pub would_accept : List ℕ → Time → Object → Scene → Bool
would_accept args now object s = is_ready pollin now object s

-- write(2) and sendto(2), of which one of no bytes waits for nothing. One to an eventfd goes by its room for the number that is added, and
-- not by POLLOUT
abbrev pub room_in : ℕ → Option Eventfd → Bool
room_in number None = false
room_in number (Some e) = has_room number e

abbrev pub takes_number : Result ℕ Refusal → Option Eventfd → Bool
takes_number (Ok number) slot = room_in number slot
takes_number (Err refusal) slot = false

abbrev pub would_write : List ℕ → Time → Object → Scene → Bool
would_write args now (kind.Eventfd k) s = takes_number (number_at (arg args 1) s.task.memory) (eventfd_at k s.shared.files)
would_write args now object s = (arg args 2 == 0) || (is_ready pollout now object s || writing_ended object s)

-- connect(2)
abbrev pub is_connecting : Option Tcb → Bool
is_connecting None = false
is_connecting (Some r) = is_syn_sent r.control.state

abbrev pub is_connected : Object → Scene → Bool
is_connected (kind.Tcp k) s = not (is_connecting (tcb_at k s.sockets))
is_connected _ s = true

abbrev pub would_connect : List ℕ → Time → Object → Scene → Bool
would_connect args now object s = is_connected object s

-- epoll_pwait(2), which also answers once its deadline has come
abbrev pub would_wait : List ℕ → Time → Object → Scene → Bool
would_wait args now object s = is_ready pollin now object s || has_come now (wait_deadline now (arg args 3) s.task)

-- sockets as the acts on them leave them: a socket that is open is there, a record of its own isn't one that a listener keeps and has
-- no error while it is connecting, and the accept queue of a listener names records of its own
pub record IsOwnRecord (r : Tcb) : Type 0 where
  pub is_own : is_syn_received r.control.state ≡ false
  pub no_error : is_syn_sent r.control.state ≡ true → r.control.error ≡ None

abbrev pub AreWhole : Option Tcb → Option Listen → Type 0
AreWhole None None = Unit {0}
AreWhole None (Some l) = All (λ place. place < length l.records) l.accept_queue
AreWhole (Some r) None = IsOwnRecord r
AreWhole (Some r) (Some l) = ⊥

abbrev pub IsWholeSocket : Option TcpSocket → Type 0
IsWholeSocket None = ⊥
IsWholeSocket (Some s) = AreWhole s.tcb s.listen

abbrev pub IsWhole : Object → SocketsRecord → Type 0
IsWhole (kind.Udp k) t = IsSome (udp_in k t)
IsWhole (kind.Tcp k) t = IsWholeSocket (slice_get t.tcp k)
IsWhole _ t = Unit {0}

-- the call that a process waits in, which isn't refused, answers exactly where a test of its descriptor's object says so
abbrev pub AnswersWhere : (List ℕ → Time → Object → Scene → Bool) → WaitingCall → Type 0
AnswersWhere ready call = (known : Known) (now : Time) (why : Why) (s : Scene) (d : Descriptor) → call_of why.number ≡ Some (system_call.Waiting call) → s.task.kept ≡ Some why
    → descriptor (arg why.args 0) s.task s.shared.files ≡ Ok d → IsWhole d.file.object s.sockets → is_refused (asked known now call why.args s) ≡ false
    → answers_scene known now why s ≡ ready why.args now d.file.object s
