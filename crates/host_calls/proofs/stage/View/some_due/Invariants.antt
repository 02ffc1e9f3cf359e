use Rattle.std.proofs.Common.{◌≡◌, drop}
use Rattle.host_sockets.specs.Sockets.{SocketsRecord}
use Rattle.host_sockets.specs.StandsFor.{Stand}
use Rattle.host_calls.specs.Ready.{some_due}
use Rattle.host_calls.specs.inside.Stage.{scene_in}
use Rattle.host_calls.proofs.stage.View.some_due.Given as goal

abbrev pub invariant-loop-place : goal.invariant-loop-place
invariant-loop-place l = (t : SocketsRecord) → Stand l.self.sockets.now t
    → some_due l.self.time (scene_in l.self t) l.entries ≡ some_due l.self.time (scene_in l.self t) (drop l.place l.entries)
