-- What the descriptors of a host's processes name: each an open file of its own, and each open file an object of its own. So the number
-- of an object is given again only where no descriptor names it any more.
use Rattle.std.specs.Prelude.{◌≡◌, ◌⊎◌, ℕ, Bool, true, false, List, [], ◌∷◌, Option, Some, None, is_some}
use Rattle.std.specs.FinMap as map
use Rattle.sim_base.specs.declared.address.Ip.{Ip}
use Rattle.sim_base.specs.declared.time.Time.{Time}
use Rattle.host_fds.specs.declared.file_id.FileId.{FileId}
use Rattle.host_fds.specs.declared.epoll.Watch.{Watch}
use Rattle.host_fds.specs.declared.pipe.End.{End}
use Rattle.host_fds.specs.declared.pipe.End.TheVariants.{Reading, Writing}
use Rattle.host_fds.specs.Epoll.{report_of}
use Rattle.host_fds.specs.Pipe.{PipeState}
use Rattle.host_files.specs.declared.file.File.{File}
use Rattle.host_files.specs.declared.file.Object.{Object}
use Rattle.host_files.specs.declared.file.Object.TheVariants as kind
use Rattle.host_files.specs.Epolls.{EpollsState}
use Rattle.host_files.specs.Files.{FilesState, file_at, pipe_at, timer_at, eventfd_at}
use Rattle.host_files.specs.Slots.{at}
use Rattle.host_wants.specs.Wanted.{Wanted}
use Rattle.host_sockets.specs.Sockets.{SocketsRecord}
use Rattle.file_calls.specs.declared.task.Task.{Task}
use Rattle.host_calls.specs.Calls.{scene_at}
use Rattle.host_calls.specs.Parts.{PartsRecord, slot_in}
use Rattle.host_calls.specs.Ready.{seen}
use Rattle.socket_laws.specs.Histories.{SocketsAct}
use Rattle.pipe_laws.specs.Acts.{PipeAct}
use Rattle.pipe_laws.specs.Eventfds.{EventfdAct}
use Rattle.file_laws.specs.Kinds.{pipes, eventfds, timers}
use Rattle.file_laws.specs.Lives.{SlotAct, Lasts}
use Rattle.file_laws.specs.Timers.{TimerAct}
use Rattle.call_rises.specs.Moves.{FilesMove}
use Rattle.call_rises.specs.Sockets.{has_udp, has_tcp, SocketLasts, SocketsMove}

-- the open file that a descriptor of a process names
abbrev pub named_in : ℕ → Option Task → Option FileId
named_in fd None = None
named_in fd (Some task) = map.get task.table fd

abbrev pub names : ℕ → ℕ → List (Option Task) → Option FileId
names process fd tasks = named_in fd (at process tasks)

-- an end of a pipe, a timer, an eventfd or a socket is there, or not
abbrev pub has_end : End → Option PipeState → Bool
has_end end None = false
has_end Reading (Some p) = p.has_reader
has_end Writing (Some p) = p.has_writer

abbrev pub is_there : Object → FilesState → SocketsRecord → Bool
is_there (kind.ReadEnd k) files sockets = has_end Reading (pipe_at k files)
is_there (kind.WriteEnd k) files sockets = has_end Writing (pipe_at k files)
is_there (kind.Timer k) files sockets = is_some (timer_at k files)
is_there (kind.Eventfd k) files sockets = is_some (eventfd_at k files)
is_there (kind.Udp k) files sockets = has_udp k sockets
is_there (kind.Tcp k) files sockets = has_tcp k sockets
is_there _ files sockets = true

-- these are each of one open file alone
abbrev pub is_single : Object → Bool
is_single (kind.ReadEnd k) = true
is_single (kind.WriteEnd k) = true
is_single (kind.Timer k) = true
is_single (kind.Eventfd k) = true
is_single (kind.Udp k) = true
is_single (kind.Tcp k) = true
is_single _ = false

-- the object alone, without how much of a text was read
abbrev pub object_alone : Object → Object
object_alone (kind.Hosts read) = kind.Hosts 0
object_alone object = object

-- an epoll has an entry
abbrev pub IsIn : Watch → List Watch → Type 0
IsIn w [] = ⊥
IsIn w (x ∷ entries) = (w ≡ x) ⊎ IsIn w entries

abbrev pub HasEntry : ℕ → EpollsState → Watch → Type 0
HasEntry k epolls w = (entries : List Watch) × ((at k epolls ≡ Some entries) × IsIn w entries)

-- each descriptor names an open file, and no two name one; the object of each is there, and no other one's; and each entry of an epoll
-- is of a descriptor that is open
pub record NamesHold (tasks : List (Option Task)) (files : FilesState) (sockets : SocketsRecord) : Type 0 where
  pub opened : (process fd : ℕ) (id : FileId) → names process fd tasks ≡ Some id → is_some (file_at id files) ≡ true
  pub apart : (process fd other gd : ℕ) (id : FileId) → names process fd tasks ≡ Some id → names other gd tasks ≡ Some id → (process ≡ other) × (fd ≡ gd)
  pub there : (id : FileId) (file : File) → file_at id files ≡ Some file → is_there file.object files sockets ≡ true
  pub single : (id other : FileId) (f g : File) → file_at id files ≡ Some f → file_at other files ≡ Some g → f.object ≡ g.object → is_single f.object ≡ true → id ≡ other
  pub watched : (process k : ℕ) (task : Task) (w : Watch) → at process tasks ≡ Some task → HasEntry k task.epolls w → is_some (map.get task.table w.fd) ≡ true

-- the object of an open file is there after each of some acts on pipes, eventfds, timers and sockets
abbrev pub ObjectLasts : List Ip → Object → List (SlotAct (Unit {0}) PipeAct) → List (SlotAct (ℕ × Bool) EventfdAct) → List (SlotAct ℕ TimerAct) → List (Time × SocketsAct) → FilesState → SocketsRecord → Wanted → Type 0
ObjectLasts hosts (kind.ReadEnd k) on_pipes on_eventfds on_timers on_sockets files sockets w = Lasts pipes k on_pipes files.pipes
ObjectLasts hosts (kind.WriteEnd k) on_pipes on_eventfds on_timers on_sockets files sockets w = Lasts pipes k on_pipes files.pipes
ObjectLasts hosts (kind.Timer k) on_pipes on_eventfds on_timers on_sockets files sockets w = Lasts timers k on_timers files.timers
ObjectLasts hosts (kind.Eventfd k) on_pipes on_eventfds on_timers on_sockets files sockets w = Lasts eventfds k on_eventfds files.eventfds
ObjectLasts hosts (kind.Udp k) on_pipes on_eventfds on_timers on_sockets files sockets w = SocketLasts hosts (has_udp k) on_sockets sockets w
ObjectLasts hosts (kind.Tcp k) on_pipes on_eventfds on_timers on_sockets files sockets w = SocketLasts hosts (has_tcp k) on_sockets sockets w
ObjectLasts hosts _ on_pipes on_eventfds on_timers on_sockets files sockets w = Unit {0}

-- a descriptor that is open before and after names one open file, of one object, which was there all along, whatever was wanted
pub record NamesOne (hosts : List Ip) (now : ℕ) (x y : PartsRecord) (files : FilesMove now x.shared.files y.shared.files) (sockets : SocketsMove hosts x.sockets y.sockets) (id jd : FileId) (f g : File) : Type 0 where
  pub same_file : id ≡ jd
  pub same_object : object_alone f.object ≡ object_alone g.object
  pub lasts : (w : Wanted) → ObjectLasts hosts f.object files.on_pipes files.on_eventfds files.on_timers sockets.acts x.shared.files x.sockets w

-- so what each descriptor of a host names stays, and the names hold afterwards
pub record NamesMove (hosts : List Ip) (now : ℕ) (x y : PartsRecord) : Type 0 where
  pub files : FilesMove now x.shared.files y.shared.files
  pub sockets : SocketsMove hosts x.sockets y.sockets
  pub hold : NamesHold y.tasks y.shared.files y.sockets
  pub one : (process fd : ℕ) (id jd : FileId) (f g : File) → names process fd x.tasks ≡ Some id → names process fd y.tasks ≡ Some jd → file_at id x.shared.files ≡ Some f → file_at jd y.shared.files ≡ Some g → NamesOne hosts now x y files sockets id jd f g

-- where an entry comes from: it was there as it is, it was there and was told, with the rises that were seen of its descriptor then, or
-- it was never told
pub data ComesFrom (now : Time) (process k : ℕ) (before : Task) (h : PartsRecord) (w : Watch) : Type 0 where
  as_it_was : HasEntry k before.epolls w → ComesFrom now process k before h w
  was_told : (v : Watch) → HasEntry k before.epolls v → w ≡ report_of v (seen now (scene_at before (slot_in process h)) v.fd) → ComesFrom now process k before h w
  never_told : w.reported ≡ None → ComesFrom now process k before h w

-- the entries of each process that was there before come from these
abbrev pub MarksMove : Time → PartsRecord → PartsRecord → Type 0
MarksMove now x y =
    (process k : ℕ) (before after : Task) (w : Watch) → at process x.tasks ≡ Some before → at process y.tasks ≡ Some after → HasEntry k after.epolls w → ComesFrom now process k before x w
