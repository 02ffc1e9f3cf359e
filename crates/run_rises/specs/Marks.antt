-- The marks of the entries of epolls: each is the counts, as they were at a moment, of the object that the entry's descriptor names
-- still.
use Rattle.std.specs.Prelude.{◌≡◌, ℕ, true, List, Option, Some}
use Rattle.std.specs.FinMap as map
use Rattle.sim_base.specs.declared.address.Ip.{Ip}
use Rattle.sim_base.specs.declared.time.Time.{Time}
use Rattle.host_fds.specs.declared.file_id.FileId.{FileId}
use Rattle.host_fds.specs.declared.epoll.Watch.{Watch}
use Rattle.host_fds.specs.declared.rises.Rises.{Rises}
use Rattle.host_files.specs.declared.file.File.{File}
use Rattle.host_files.specs.declared.file.Object.{Object}
use Rattle.host_files.specs.Files.{FilesState, file_at}
use Rattle.host_files.specs.Slots.{at}
use Rattle.host_wants.specs.Wanted.{Wanted}
use Rattle.host_sockets.specs.Sockets.{SocketsRecord}
use Rattle.file_calls.specs.declared.task.Task.{Task}
use Rattle.host_calls.specs.Parts.{PartsRecord}
use Rattle.call_rises.specs.Sockets.{sockets_left}
use Rattle.call_rises.specs.Names.{is_there, object_alone, HasEntry, NamesHold, ObjectLasts}
use Rattle.run_rises.specs.Histories.{HostHistory, LeavesFiles, Leaves, GoesOn}
use Rattle.run_rises.specs.Rises.{rises_counted, counts}

module _ (hosts : List Ip) (own : Ip) where
  -- the sockets that a history leaves, and what is wanted then
  abbrev pub sockets_by : HostHistory → SocketsRecord × Wanted
  sockets_by history = sockets_left hosts own history.draws history.on_sockets

  -- a history began with one after which the object was there, and had these counts at a moment; and the object was there after each
  -- act since
  pub record IsMark (history : HostHistory) (object : Object) (mark : Rises) : Type 0 where
    pub before : HostHistory
    pub moment : Time
    pub files : FilesState
    pub left : LeavesFiles before files
    pub goes_on : GoesOn before history
    pub was_there : is_there object files (sockets_by before).0 ≡ true
    pub lasts : ObjectLasts hosts object goes_on.on_pipes.0 goes_on.on_eventfds.0 goes_on.on_timers.0 goes_on.on_sockets.0 files (sockets_by before).0 (sockets_by before).1
    pub is : mark ≡ counts (rises_counted hosts own before moment object)

  -- so is the mark of each entry, of the object that its descriptor names
  abbrev pub MarksHold : HostHistory → List (Option Task) → FilesState → Type 0
  MarksHold history tasks files =
      (process k : ℕ) (task : Task) (w : Watch) (mark : Rises) (id : FileId) (file : File) → at process tasks ≡ Some task → HasEntry k task.epolls w → w.reported ≡ Some mark → map.get task.table w.fd ≡ Some id → file_at id files ≡ Some file → IsMark history (object_alone file.object) mark

  -- a history leaves a host's files and sockets, the names of its descriptors hold, and the marks
  pub record Holds (history : HostHistory) (tasks : List (Option Task)) (files : FilesState) (sockets : SocketsRecord) : Type 0 where
    pub leaves : Leaves hosts own history files sockets
    pub names : NamesHold tasks files sockets
    pub marks : MarksHold history tasks files

  -- and then one that goes on from it does so to what they have become
  abbrev pub HoldsOn : HostHistory → PartsRecord → PartsRecord → Type 0
  HoldsOn history x y =
      Holds history x.tasks x.shared.files x.sockets
      → (more : HostHistory) × (GoesOn history more × Holds more y.tasks y.shared.files y.sockets)
