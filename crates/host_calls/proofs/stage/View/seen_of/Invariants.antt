use Rattle.std.proofs.Common.{◌≤◌, length}
use Rattle.host_sockets.specs.Sockets.{SocketsRecord}
use Rattle.host_sockets.specs.StandsFor.{Stand}
use Rattle.host_calls.specs.Epoll.{seen_of}
use Rattle.host_calls.specs.inside.Stage.{scene_in}
use Rattle.host_calls.proofs.Waits.{Noting}
use Rattle.host_calls.proofs.stage.View.seen_of.Given as goal

abbrev pub invariant-loop-place : goal.invariant-loop-place
invariant-loop-place l = record {
  size : length l.all.items ≤ l.place;
  noting : (t : SocketsRecord) → Stand l.self.sockets.now t → Noting (seen_of l.self.time (scene_in l.self t)) l.entries l.place l.all.items;
}
