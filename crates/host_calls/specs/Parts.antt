-- What a host's calls act on: its processes, what they share, and its sockets.
use Rattle.std.specs.Prelude.{◌≡◌, ℕ, List, slice_set, Option, Some, Result, Ok, Err}
use Rattle.host_files.specs.Slots.{at}
use Rattle.host_wants.specs.declared.error.Refusal.{Refusal}
use Rattle.host_wants.specs.declared.error.CallError.{CallError}
use Rattle.host_wants.specs.declared.error.CallError.TheVariants as error
use Rattle.host_sockets.specs.Sockets.{SocketsRecord}
use Rattle.host_sockets.specs.StandsFor.{Stand}
use Rattle.host_wants.specs.Wanted.{Wanted}
use Rattle.host_sockets.specs.declared.sockets.Sockets.{Sockets}
use Rattle.file_calls.specs.Scene.{Local}
use Rattle.host_calls.specs.declared.all.Parts.{Parts}
use Rattle.file_calls.specs.declared.task.Task.{Task}
use Rattle.file_calls.specs.declared.task.Shared.{Shared}

-- a process is None before it starts, and where its host has let it go
pub record PartsRecord : Type 0 where
  pub tasks : List (Option Task)
  pub shared : Shared
  pub sockets : SocketsRecord

-- what the code's parts stand for: everything is equal, but that its sockets stand for the record's
pub record PartsStand (c : Parts) (h : PartsRecord) : Type 0 where
  pub tasks : c.tasks.items ≡ h.tasks
  pub shared : c.shared ≡ h.shared
  pub sockets : Stand c.sockets h.sockets

-- the slot of a process: the process, if it is there, what it shares, and the sockets
pub record Slot : Type 0 where
  pub task : Option Task
  pub shared : Shared
  pub sockets : SocketsRecord

abbrev pub slot : Option Task → Shared → SocketsRecord → Slot
slot task shared t = record { task = task; shared = shared; sockets = t }

abbrev pub slot_in : ℕ → PartsRecord → Slot
slot_in process h = slot (at process h.tasks) h.shared h.sockets

abbrev pub with_slot : ℕ → Slot → PartsRecord → PartsRecord
with_slot process p h = record { tasks = slice_set h.tasks process p.task; shared = p.shared; sockets = p.sockets }

pub record SlotStands (left : Option Task) (common : Shared) (c : Sockets) (p : Slot) : Type 0 where
  pub task : left ≡ p.task
  pub shared : common ≡ p.shared
  pub sockets : Stand c p.sockets

-- a process, what it shares, and the sockets of its host
pub record Scene : Type 0 where
  pub task : Task
  pub shared : Shared
  pub sockets : SocketsRecord

abbrev pub scene : Local → SocketsRecord → Scene
scene (task, shared) t = record { task = task; shared = shared; sockets = t }

abbrev pub local_of : Scene → Local
local_of s = (s.task, s.shared)

abbrev pub with_local : Local → Scene → Scene
with_local (task, shared) s = record { task = task; shared = shared; sockets = s.sockets }

-- what a call on sockets leaves
abbrev pub with_sockets : SocketsRecord → Scene → Scene
with_sockets t s = record s { sockets = t }

abbrev pub with_wanted : SocketsRecord × Wanted → Scene → Scene
with_wanted (t, w) s = record { task = s.task; shared = record s.shared { outlet = w }; sockets = t }

-- a row that needs no sockets
abbrev pub plainly : {A : Type 0} → Result (A × Local) Refusal → Scene → Result (A × Scene) Refusal
plainly (Ok (a, local)) s = Ok (a, with_local local s)
plainly (Err r) s = Err r

-- a call answers as its row says, whatever record of sockets the code's stood for: there is one that they stand for now. After
-- want of memory nothing is known
abbrev pub Answers : {A : Type 0} → Result (A × Scene) Refusal → Local → SocketsRecord → Local → Sockets → Result A CallError → Type 0
Answers row old t new c (Ok a) = (after : SocketsRecord) × ((row ≡ Ok (a, scene new after)) × Stand c after)
Answers row old t new c (Err (error.Refused r)) = (row ≡ Err r) × (Stand c t × (new ≡ old))
Answers row old t new c (Err error.NoMemory) = Unit {0}

abbrev pub slot_of : Scene → Slot
slot_of s = slot (Some s.task) s.shared s.sockets

-- what can't be refused leaves this
abbrev pub Leaves : Scene → Local → Sockets → Type 0
Leaves s new c = (after : SocketsRecord) × ((s ≡ scene new after) × Stand c after)
