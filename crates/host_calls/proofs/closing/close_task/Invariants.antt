use Rattle.host_sockets.specs.Sockets.{SocketsRecord}
use Rattle.host_sockets.specs.StandsFor.{Stand}
use Rattle.host_calls.specs.Closing.{closed_below}
use Rattle.host_calls.specs.Parts.{Leaves, scene}
use Rattle.host_calls.proofs.closing.close_task.Given as goal

abbrev pub invariant-loop-fd : goal.invariant-loop-fd
invariant-loop-fd l = (t : SocketsRecord) → Stand l.initial.sockets t
    → Leaves (closed_below l.now l.fd (scene (l.initial.task, l.initial.shared) t)) (l.task, l.shared) l.sockets
