-- what the calls of a host act on: memories and pipes of bytes, sockets and packets that fit
use Rattle.std.specs.Prelude.{Option, IfSome}
use Rattle.std.specs.List.{AllByRecursion}
use Rattle.host_fds.specs.Pipe.{PipeState}
use Rattle.host_files.specs.Files.{FilesState}
use Rattle.file_calls.specs.declared.task.Task.{Task}
use Rattle.host_calls.specs.Parts.{PartsRecord}
use Rattle.run_fits.specs.Bytes.{AreBytes, HasBytes}
use Rattle.run_fits.specs.Packets.{WantsFit}
use Rattle.run_fits.specs.Sockets.{SocketsFit}

-- the bytes in each pipe
abbrev pub PipeFits : Option PipeState → Type 0
PipeFits slot = IfSome slot (λ (p : PipeState). AreBytes p.bytes)

abbrev pub FilesFit : FilesState → Type 0
FilesFit files = AllByRecursion PipeFits files.pipes

-- the memory of each process
abbrev pub TaskFits : Option Task → Type 0
TaskFits slot = IfSome slot (λ (task : Task). HasBytes task.memory)

pub record PartsFit (h : PartsRecord) : Type 0 where
  pub tasks : AllByRecursion TaskFits h.tasks
  pub files : FilesFit h.shared.files
  pub wants : WantsFit h.shared.outlet
  pub sockets : SocketsFit h.sockets
