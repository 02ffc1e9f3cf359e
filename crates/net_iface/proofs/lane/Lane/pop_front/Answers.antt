use Rattle.std.proofs.Common.{option_map, slice_get, sym, ap, ◌∙◌}
use Rattle.net_iface.specs.Lane.{LaneState, waiting_size}
use Rattle.net_iface.proofs.LaneLemmas.{front_within}
use Rattle.net_iface.proofs.lane.Lane.pop_front.Goals as goal

pub overflow_sub-self : goal.overflow_sub-self
overflow_sub-self c =
    front_within c.self.inside.waiting.items c.self.inside.bytes c.in_ok-size.size c.self.invariant
    (c.in_ok-size.ensures.size ∙ ap (λ (l : LaneState). option_map waiting_size (slice_get l.waiting 0)) (sym c.self.view_is))
