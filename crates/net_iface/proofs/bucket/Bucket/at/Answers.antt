use Rattle.std.proofs.Common.{◌+◌, ◌-◌, ◌/◌, min, sym, ap, ◌∙◌, arith}
use Rattle.net_iface.specs.Bucket.{BucketState, bucket_at}
use Rattle.net_iface.proofs.BucketLemmas.{same_bucket, after_ticks_closed, gained}
use Rattle.net_iface.proofs.bucket.Bucket.at.Goals as goal
use Rattle.sim_base.specs.Packet.{max_packet}
use Rattle.sim_base.specs.Units.{millisecond}

pub returns-clause-at : goal.returns-clause-at
returns-clause-at c =
    let b = c.self.inside in
    let elapsed = c.args.now.nanos / millisecond - b.millis in
    let began = ap (λ (s : BucketState). s.millis) c.self.view_is in
    same_bucket b.rate _ _ _ _
    (ap (λ g. b.tokens + g) (c.min.ensures ∙ ap (λ g. min g (b.rate + max_packet - b.tokens)) c.saturating_mul-gained.ensures)
    ∙ gained elapsed b.rate b.tokens c.self.invariant.held c.self.invariant.small)
    (omega (arith, began, c.requires))
    ∙ sym (after_ticks_closed elapsed b.rate b.tokens b.millis c.self.invariant.held)
    ∙ ap (bucket_at c.args.now.nanos) c.self.view_is
