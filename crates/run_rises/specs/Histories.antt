-- what has happened to all that may become ready at a host: its pipes, eventfds, timers and sockets
use Rattle.std.specs.Prelude.{◌≡◌, ℕ, Bool, List, ◌++◌}
use Rattle.sim_base.specs.declared.address.Ip.{Ip}
use Rattle.sim_base.specs.declared.time.Time.{Time}
use Rattle.host_files.specs.Files.{FilesState}
use Rattle.host_sockets.specs.Sockets.{SocketsRecord}
use Rattle.host_calls.specs.Parts.{PartsRecord}
use Rattle.socket_laws.specs.Histories.{SocketsAct, sockets_of}
use Rattle.pipe_laws.specs.Acts.{PipeAct}
use Rattle.pipe_laws.specs.Eventfds.{EventfdAct}
use Rattle.file_laws.specs.Kinds.{pipes, eventfds, timers}
use Rattle.file_laws.specs.Lives.{SlotAct, slots_of}
use Rattle.file_laws.specs.Timers.{TimerAct}

-- the acts on each kind, one behind another; and the words that the host's generator begins with
pub record HostHistory : Type 0 where
  pub on_pipes : List (SlotAct (Unit {0}) PipeAct)
  pub on_eventfds : List (SlotAct (ℕ × Bool) EventfdAct)
  pub on_timers : List (SlotAct ℕ TimerAct)
  pub draws : List ℕ
  pub on_sockets : List (Time × SocketsAct)

-- they leave these files, where there was nothing at first
pub record LeavesFiles (history : HostHistory) (files : FilesState) : Type 0 where
  pub pipes_are : slots_of pipes history.on_pipes ≡ files.pipes
  pub eventfds_are : slots_of eventfds history.on_eventfds ≡ files.eventfds
  pub timers_are : slots_of timers history.on_timers ≡ files.timers

-- and these sockets, of a host with this address among the addresses of all hosts
pub record Leaves (hosts : List Ip) (own : Ip) (history : HostHistory) (files : FilesState) (sockets : SocketsRecord) : Type 0 where
  pub files_are : LeavesFiles history files
  pub sockets_are : sockets ≡ sockets_of hosts own history.draws history.on_sockets

-- a longer history, which begins as one does
pub record GoesOn (history more : HostHistory) : Type 0 where
  pub on_pipes : (rest : List (SlotAct (Unit {0}) PipeAct)) × (history.on_pipes ++ rest ≡ more.on_pipes)
  pub on_eventfds : (rest : List (SlotAct (ℕ × Bool) EventfdAct)) × (history.on_eventfds ++ rest ≡ more.on_eventfds)
  pub on_timers : (rest : List (SlotAct ℕ TimerAct)) × (history.on_timers ++ rest ≡ more.on_timers)
  pub draws : history.draws ≡ more.draws
  pub on_sockets : (rest : List (Time × SocketsAct)) × (history.on_sockets ++ rest ≡ more.on_sockets)

-- where one history leaves the parts of a host, one that goes on from it leaves what they have become
abbrev pub GoesOnTo : List Ip → Ip → HostHistory → PartsRecord → PartsRecord → Type 0
GoesOnTo hosts own history x y =
    Leaves hosts own history x.shared.files x.sockets
    → (more : HostHistory) × (GoesOn history more × Leaves hosts own more y.shared.files y.sockets)
