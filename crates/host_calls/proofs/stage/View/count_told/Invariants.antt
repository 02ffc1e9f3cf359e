use Rattle.std.proofs.Common.{◌≡◌, ◌+◌, ◌-◌, ◌*◌, ◌≤◌, drop}
use Rattle.host_sockets.specs.Sockets.{SocketsRecord}
use Rattle.host_sockets.specs.StandsFor.{Stand}
use Rattle.host_calls.specs.Polling.{count_told}
use Rattle.host_calls.specs.inside.Stage.{scene_in}
use Rattle.host_calls.proofs.stage.View.count_told.Given as goal

abbrev pub invariant-loop-place : goal.invariant-loop-place
invariant-loop-place l = record {
  most : l.found ≤ l.place;
  told : (t : SocketsRecord) → Stand l.self.sockets.now t
      → count_told l.self.time (scene_in l.self t) l.count l.entries
      ≡ l.found + count_told l.self.time (scene_in l.self t) (l.count - l.place) (drop (8 * l.place) l.entries);
}
