use Rattle.std.proofs.Common.{◌≡◌, ◌-◌, ◌*◌, ◌++◌, drop}
use Rattle.host_sockets.specs.Sockets.{SocketsRecord}
use Rattle.host_sockets.specs.StandsFor.{Stand}
use Rattle.host_calls.specs.Polling.{told_entries}
use Rattle.host_calls.specs.inside.Stage.{scene_in}
use Rattle.host_calls.proofs.stage.View.told_entries.Given as goal

abbrev pub invariant-loop-place : goal.invariant-loop-place
invariant-loop-place l = (t : SocketsRecord) → Stand l.self.sockets.now t
    → told_entries l.self.time (scene_in l.self t) l.count l.entries
    ≡ l.bytes.items ++ told_entries l.self.time (scene_in l.self t) (l.count - l.place) (drop (8 * l.place) l.entries)
