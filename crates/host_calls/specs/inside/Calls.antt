-- A call as the code makes it.
use Rattle.std.specs.Prelude.{◌≡◌, Option}
use Rattle.host_sockets.specs.declared.sockets.Sockets.{Sockets}
use Rattle.host_sockets.specs.StandsFor.{Stand}
use Rattle.host_calls.specs.declared.parts.Answer.{Answer}
use Rattle.file_calls.specs.declared.task.Shared.{Shared}
use Rattle.file_calls.specs.declared.task.Task.{Task}
use Rattle.host_calls.specs.Parts.{Slot, SlotStands, Scene}
use Rattle.file_calls.specs.Scene.{Local, Is}

abbrev pub SlotCalled : Answer × Slot → Answer → Option Task → Shared → Sockets → Type 0
SlotCalled (b, p) a task shared c = (a ≡ b) × SlotStands task shared c p

abbrev pub SceneCalled : Answer × Scene → Answer → Task → Shared → Sockets → Type 0
SceneCalled (b, s) a task shared c = (a ≡ b) × ((task ≡ s.task) × ((shared ≡ s.shared) × Stand c s.sockets))

abbrev pub IsCalled : Answer × Local → Answer → Task → Shared → Type 0
IsCalled (b, s) a task shared = (a ≡ b) × Is s task shared
