use Rattle.std.proofs.Common.{length, ap, arith}
use Rattle.net_iface.specs.Lane.{LaneState}
use Rattle.net_iface.proofs.LaneLemmas.{bytes_fit, IsLane_push}
use Rattle.net_iface.proofs.lane.Lane.wait.Goals as goal

pub overflow_add-self : goal.overflow_add-self
overflow_add-self c = omega (arith, bytes_fit c.self.inside.waiting.items c.self.inside.bytes c.size-size.result c.self.invariant (omega (arith, c.requires.size, c.size-size.ensures)))

pub invariant_of-self-2 : goal.invariant_of-self-2
invariant_of-self-2 c =
    rw c.in_ok-push_back.ensures.items
    (rw c.size-size.ensures
    (IsLane_push c.self.inside.waiting.items (record { packet = c.args.packet; since = c.args.now }) c.self.inside.bytes c.self.invariant c.requires.size (omega (arith, c.requires.room, ap (λ (l : LaneState). length l.waiting) c.self.view_is))))
