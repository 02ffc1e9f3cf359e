-- close(2), and the end of a process.
use Rattle.std.specs.Prelude.{◌≡◌, ℕ, zero, suc, Result, Ok, Err}
use Rattle.std.specs.FinMap as map
use Rattle.sim_base.specs.declared.time.Time.{Time}
use Rattle.sim_base.specs.Refusals.{◌>>=◌}
use Rattle.host_fds.specs.declared.file_id.FileId.{FileId}
use Rattle.host_fds.specs.Descriptors.{limit}
use Rattle.host_fds.specs.declared.pipe.End.TheVariants.{Reading, Writing}
use Rattle.host_files.specs.declared.file.Object.{Object}
use Rattle.host_files.specs.declared.file.Object.TheVariants as kind
use Rattle.host_files.specs.Epolls.{EpollsState, forgotten, epoll_ended}
use Rattle.host_files.specs.Files.{FilesState, closed, pipe_shut, timer_ended, eventfd_ended}
use Rattle.host_wants.specs.declared.error.Refusal.{Refusal}
use Rattle.host_wants.specs.Wanted.{Wanted}
use Rattle.host_sockets.specs.declared.sockets.Sockets.{Sockets}
use Rattle.host_sockets.specs.Sockets.{SocketsRecord}
use Rattle.host_sockets.specs.StandsFor.{Stand}
use Rattle.host_sockets.specs.Udp.{closes_udp}
use Rattle.host_sockets.specs.Closing.{closes_tcp}
use Rattle.file_calls.specs.declared.descriptors.Descriptor.{Descriptor}
use Rattle.file_calls.specs.declared.task.Task.{Task}
use Rattle.file_calls.specs.declared.task.Shared.{Shared}
use Rattle.file_calls.specs.Descriptors.{descriptor}
use Rattle.host_calls.specs.Parts.{Scene}

-- what a file was an end of: a pipe loses the end, a timer or an eventfd is gone, and a socket is closed
abbrev pub with_files : FilesState → Shared → SocketsRecord → Shared × SocketsRecord
with_files files shared t = (record shared { files = files }, t)

abbrev pub with_wanted : SocketsRecord × Wanted → Shared → Shared × SocketsRecord
with_wanted (t, w) shared = (record shared { outlet = w }, t)

abbrev pub ends : Time → Object → Shared → SocketsRecord → Shared × SocketsRecord
ends now (kind.ReadEnd k) shared t = with_files (pipe_shut Reading k shared.files) shared t
ends now (kind.WriteEnd k) shared t = with_files (pipe_shut Writing k shared.files) shared t
ends now (kind.Timer k) shared t = with_files (timer_ended k shared.files) shared t
ends now (kind.Eventfd k) shared t = with_files (eventfd_ended k shared.files) shared t
ends now (kind.Udp k) shared t = (shared, closes_udp k t)
ends now (kind.Tcp k) shared t = with_wanted (closes_tcp now k t shared.outlet) shared
ends now _ shared t = (shared, t)

-- what the code leaves of it
abbrev pub Ended : Shared × SocketsRecord → Shared → Sockets → Type 0
Ended after shared c = (shared ≡ after.0) × Stand c after.1

-- no epoll has an entry of a closed descriptor, and an epoll that it named is gone
abbrev pub without_epoll : Object → EpollsState → EpollsState
without_epoll (kind.Epoll k) epolls = epoll_ended k epolls
without_epoll _ epolls = epolls

abbrev pub forgets : ℕ → Object → Task → Task
forgets fd object task = record task { epolls = forgotten fd (without_epoll object task.epolls) }

-- the descriptor and the file are gone
abbrev pub without_file : ℕ → FileId → Task → Shared × SocketsRecord → Scene
without_file fd id task (shared, t) = record {
  task = record task { table = map.remove task.table fd };
  shared = record shared { files = closed id shared.files };
  sockets = t;
}

abbrev pub closes : Time → ℕ → Descriptor → Scene → Scene
closes now fd d s = without_file fd d.id (forgets fd d.file.object s.task) (ends now d.file.object s.shared s.sockets)

-- close(2)
abbrev pub close : Time → ℕ → Scene → Result (ℕ × Scene) Refusal
close now fd s = do
  d ← descriptor fd s.task s.shared.files
  Ok (0, closes now fd d s)

-- a descriptor of a process that ends, of which the file is closed that it names
abbrev pub without_fd : ℕ → Scene → Scene
without_fd fd s = record s { task = record s.task { table = map.remove s.task.table fd } }

abbrev pub closed_by : Time → ℕ → Result Descriptor Refusal → Scene → Scene
closed_by now fd (Ok d) s = closes now fd d s
closed_by now fd (Err refusal) s = without_fd fd s

abbrev pub closed_one : Time → ℕ → Scene → Scene
closed_one now fd s = closed_by now fd (descriptor fd s.task s.shared.files) s

-- the end of a process: its descriptors are closed in rising order
unfoldable pub closed_below : Time → ℕ → Scene → Scene
closed_below now zero s = s
closed_below now (suc fd) s = closed_one now fd (closed_below now fd s)

abbrev pub all_closed : Time → Scene → Scene
all_closed now s = closed_below now limit s
