-- What objects are ready for, by the bits of poll(2), and what an epoll sees of them.
use Rattle.std.specs.Prelude.{ℕ, ◌+◌, Bool, List, Option, Some, None, Result, Ok, Err, if◌then◌else◌}
use Rattle.std.specs.List.{list_any}
use Rattle.sim_base.specs.declared.time.Time.{Time}
use Rattle.sim_base.specs.Poll.{pollin, pollout}
use Rattle.host_fds.specs.Epoll as epoll
use Rattle.host_fds.specs.Rises.{no_rises}
use Rattle.host_fds.specs.declared.epoll.Seen.{Seen}
use Rattle.host_fds.specs.declared.epoll.Watch.{Watch}
use Rattle.host_fds.specs.declared.pipe.End.TheVariants.{Reading, Writing}
use Rattle.host_fds.specs.declared.rises.Rises.{Rises}
use Rattle.host_files.specs.declared.file.Object.{Object}
use Rattle.host_files.specs.declared.file.Object.TheVariants as kind
use Rattle.host_files.specs.Epolls.{epoll_at}
use Rattle.host_files.specs.Files.{FilesState, pipe_at, timer_at, eventfd_at}
use Rattle.host_wants.specs.declared.error.Refusal.{Refusal}
use Rattle.host_sockets.specs.Sockets.{SocketsRecord}
use Rattle.sock_tcp.specs.connection.Ready.{bit_if}
use Rattle.host_sockets.specs.Ready.{tcp_ready, tcp_seen, tcp_rises, udp_ready, udp_rises}
use Rattle.file_calls.specs.declared.descriptors.Descriptor.{Descriptor}
use Rattle.file_calls.specs.Descriptors.{descriptor}
use Rattle.call_parts.specs.Ready.{pipe_ready, timer_ready, eventfd_ready, pipe_rises, rises_of_timer, eventfd_rises}
use Rattle.host_calls.specs.Parts.{Scene}

-- the readiness of each kind of object; that of an epoll stands below
abbrev pub object_ready : Time → Object → FilesState → SocketsRecord → ℕ
object_ready now kind.Input files sockets = pollin
object_ready now kind.Output files sockets = pollout
object_ready now kind.Errors files sockets = pollout
object_ready now (kind.Hosts read) files sockets = pollin + pollout
object_ready now (kind.ReadEnd k) files sockets = pipe_ready (pipe_at k files) Reading
object_ready now (kind.WriteEnd k) files sockets = pipe_ready (pipe_at k files) Writing
object_ready now (kind.Timer k) files sockets = timer_ready now k files
object_ready now (kind.Eventfd k) files sockets = eventfd_ready (eventfd_at k files)
object_ready now (kind.Epoll k) files sockets = 0
object_ready now (kind.Udp k) files sockets = udp_ready k sockets
object_ready now (kind.Tcp k) files sockets = tcp_ready k sockets

-- the bits that an epoll sees: of a TCP socket POLLRDHUP too
abbrev pub bits_seen : Time → Object → FilesState → SocketsRecord → ℕ
bits_seen now (kind.Tcp k) files sockets = tcp_seen k sockets
bits_seen now object files sockets = object_ready now object files sockets

abbrev pub object_rises : Time → Object → FilesState → SocketsRecord → Rises
object_rises now (kind.ReadEnd k) files sockets = pipe_rises (pipe_at k files) Reading
object_rises now (kind.WriteEnd k) files sockets = pipe_rises (pipe_at k files) Writing
object_rises now (kind.Timer k) files sockets = rises_of_timer now (timer_at k files)
object_rises now (kind.Eventfd k) files sockets = eventfd_rises (eventfd_at k files)
object_rises now (kind.Udp k) files sockets = udp_rises k sockets
object_rises now (kind.Tcp k) files sockets = tcp_rises k sockets
object_rises now _ files sockets = no_rises

-- what is seen of a descriptor; one that is free is ready for nothing
abbrev pub seen_as : Time → ℕ → Object → FilesState → SocketsRecord → Seen
seen_as now fd object files sockets = record { fd = fd; bits = bits_seen now object files sockets; rises = object_rises now object files sockets }

abbrev pub seen_by : Time → ℕ → Result Descriptor Refusal → FilesState → SocketsRecord → Seen
seen_by now fd (Err refusal) files sockets = record { fd = fd; bits = 0; rises = no_rises }
seen_by now fd (Ok d) files sockets = seen_as now fd d.file.object files sockets

abbrev pub seen : Time → Scene → ℕ → Seen
seen now s fd = seen_by now fd (descriptor fd s.task s.shared.files) s.shared.files s.sockets

-- whether an epoll_wait(2) would tell of an entry, and of one of some
abbrev pub is_due : Time → Scene → Watch → Bool
is_due now s w = epoll.is_due w (seen now s w.fd)

abbrev pub some_due : Time → Scene → List Watch → Bool
some_due now s entries = list_any (is_due now s) entries

-- what is seen of an entry's descriptor, where the entry is due
abbrev pub if_due : Watch → Seen → Option Seen
if_due w s = if epoll.is_due w s then Some s else None

abbrev pub seen_due : Time → Scene → Watch → Option Seen
seen_due now s w = if_due w (seen now s w.fd)

-- an epoll is ready where a wait would answer at once
abbrev pub epoll_ready : Time → Scene → Option (List Watch) → ℕ
epoll_ready now s None = 0
epoll_ready now s (Some entries) = bit_if (some_due now s entries) pollin

abbrev pub readiness : Time → Object → Scene → ℕ
readiness now (kind.Epoll k) s = epoll_ready now s (epoll_at k s.task.epolls)
readiness now object s = object_ready now object s.shared.files s.sockets
