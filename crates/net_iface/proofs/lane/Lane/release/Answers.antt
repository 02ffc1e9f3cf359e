use Rattle.std.proofs.Common.{◌≡◌, sym, ap, ◌∙◌}
use Rattle.net_iface.specs.Bucket.{BucketState}
use Rattle.net_iface.specs.Lane.{Release, leaving, with_taken, with_next, released}
use Rattle.net_iface.proofs.LaneLemmas.{behind_first, leaving_more, behind_leaving, leaving_last}
use Rattle.net_iface.proofs.lane.Lane.release.Goals as goal

pub loop-taken-preserved : goal.loop-taken-preserved
loop-taken-preserved c =
    let t = c.in-Some.taken in
    let next = c.take_front.new.self in
    let ps = c.loop-taken.packets.items in
    let ds = c.loop-taken.dropped.items in
    let rest = leaving c.args.now next next.waiting in
    record {
      left =
          ap (λ xs. behind_first xs ds rest) c.in_ok-push-2.ensures.items
          ∙ behind_leaving ps ds t.packet rest
          ∙ ap (λ d. behind_first ps ds (with_taken d t.packet rest)) (sym c.if-taken.false)
          ∙ leaving_more c.args.now ps ds c.loop-taken.self c.loop-taken.self.waiting t next c.in-Some.ensures.taken
          ∙ c.loop-taken.invariant.left;
      time = c.take_front.ensures.time ∙ c.loop-taken.invariant.time;
    }

pub returns-clause-released : goal.returns-clause-released
returns-clause-released c =
    let now = c.args.now in
    let ps = c.loop-taken.packets.items in
    let ds = c.loop-taken.dropped.items in
    let next = c.take_front.new.self in
    let b = c.self.inside in
    let told : ◌≡◌ {A = Release} (record { packets = ps; dropped = ds; next = c.next_due-next.result; lane = next }) (with_next (record { packets = ps; dropped = ds; lane = next })) =
    λ i. record { packets = ps; dropped = ds; next = c.next_due-next.ensures i; lane = next } in
    told
    ∙ ap with_next (leaving_last now ps ds c.loop-taken.self c.loop-taken.self.waiting c.take_front.result next
    (leaving now (record { rule = b.rule; codel = b.codel; bucket = c.at.new.self; waiting = b.waiting.items }) b.waiting.items)
    c.take_front.ensures.taken c.in_default.is c.loop-taken.invariant.left)
    ∙ ap (λ (x : BucketState). with_next (leaving now (record { rule = b.rule; codel = b.codel; bucket = x; waiting = b.waiting.items }) b.waiting.items)) c.at.ensures.at
    ∙ ap (released now) c.self.view_is
