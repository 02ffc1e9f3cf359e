use Rattle.std.proofs.Common.{map}
use Rattle.stream_pairs.specs.Directions.{kept_in}
use Rattle.stream_pairs.proofs.DirectionLemmas.{host_at, indexed, more_directions, all_directions}
use Rattle.stream_pairs.proofs.pairing.directions.Goals as goal

pub loop-place-preserved : goal.loop-place-preserved
loop-place-preserved c =
    more_directions c.args.kept.now (map kept_in c.args.kept.now) c.loop-place.place c.index-kept-place.result c.loop-place.streams.items c.push_directions.new.into.items c.loop-place-test.true
    c.index-kept-place.is c.loop-place.invariant
    (c.in_ok-push_directions.ensures (map kept_in c.args.kept.now)
    (indexed c.in_ok-book.book c.in_ok-entries.entries.items c.as_slice.result.now c.args.kept.now c.in_ok-entries.ensures c.in_ok-book.ensures c.as_slice.ensures.value)
    (host_at c.args.kept.now c.loop-place.place c.index-kept-place.result c.loop-place-test.true c.index-kept-place.is))

pub returns : goal.returns
returns c = all_directions c.args.kept.now c.loop-place.place c.loop-place.streams.items c.loop-place-test.false c.loop-place.invariant
