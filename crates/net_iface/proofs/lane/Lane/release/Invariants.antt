use Rattle.std.proofs.Common.{◌≡◌, length}
use Rattle.net_iface.specs.Lane.{leaving}
use Rattle.net_iface.proofs.LaneLemmas.{behind_first}
use Rattle.net_iface.proofs.lane.Lane.release.Given as goal

abbrev pub invariant-loop-taken : goal.invariant-loop-taken
invariant-loop-taken l = record {
  left : behind_first l.packets.items l.dropped.items (leaving l.now l.self l.self.waiting) ≡ leaving l.now l.initial.self l.initial.self.waiting;
  time : l.self.bucket.millis ≡ l.initial.self.bucket.millis;
}

abbrev pub decreases-loop-taken : goal.decreases-loop-taken
decreases-loop-taken l = length l.self.waiting
