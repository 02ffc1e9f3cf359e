use Rattle.std.proofs.Common.{Some, ap, ◌∙◌, arith}
use Rattle.net_iface.specs.Bucket.{paid}
use Rattle.net_iface.specs.Lane.{LaneState, waiting_bytes}
use Rattle.net_iface.proofs.LaneLemmas.{front_taken_is}
use Rattle.net_iface.proofs.lane.Lane.take_front.Goals as goal

pub returns-clause-taken : goal.returns-clause-taken
returns-clause-taken c =
    let size = c.in_ok-size.size in
    let dropped = c.treats-dropped.result in
    ap (λ (l : LaneState). (Some (record { packet = c.in_ok-front.front.packet; dropped = dropped }), record l { bucket = c.pay.new.self })) c.self-2.view_is
    ∙ front_taken_is c.args.now c.args.self.now c.args.self.now.waiting size c.in_ok-front.front c.pop_front.new.self c.treats-dropped.new.self
    dropped c.treats.inside.bytes c.pay.new.self c.in_ok-size.ensures.size
    (omega (arith, c.if-not-holds.ensures.enough, ap (λ (l : LaneState). l.bucket.tokens) c.self.view_is))
    c.in_ok-front.ensures
    (c.treats.invariant.told ∙ ap (λ (l : LaneState). waiting_bytes l.waiting) c.treats.view_is)
    c.treats-dropped.ensures.treated c.treats-dropped.ensures.rest
    (c.pay.ensures ∙ ap (λ (l : LaneState). paid dropped size l.bucket) c.self-2.view_is)
