use Rattle.std.proofs.Common.{refl}
use Rattle.stream_pairs.specs.Directions.{kept_in, direction}
use Rattle.stream_pairs.proofs.DirectionLemmas.{pushed_more}
use Rattle.stream_pairs.proofs.pairing.push_directions.Goals as goal

pub loop-stream-preserved : goal.loop-stream-preserved
loop-stream-preserved c = λ all indexes at.
    pushed_more (direction all (kept_in c.args.kept.now)) c.args.kept.now.streams.items c.as_slice-stream-items.result.now c.loop-stream.stream-index _ c.args.into.now.items
    c.loop-stream.into.items c.push.new.self.items c.direction.result c.as_slice-stream-items.ensures.value c.loop-stream-test.true (c.loop-stream.invariant all indexes at)
    c.in_ok-push.ensures.items (c.direction.ensures all (kept_in c.args.kept.now) indexes at refl)
