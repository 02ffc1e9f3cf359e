use Rattle.std.proofs.Common.{◌++◌, sym, ◌∙◌}
use Rattle.std.specs.Vec.Iter.{into_iter_items}
use Rattle.yaml_merge.specs.inside.Held.{keys_in}
use Rattle.yaml_merge.specs.Merge.{new_pairs}
use Rattle.yaml_merge.proofs.MergingLaws.{spread_more}
use Rattle.yaml_merge.proofs.merging.spread.Goals as goal

pub loop-pair-preserved-in-Continue-branch-2 : goal.loop-pair-preserved-in-Continue-branch-2
loop-pair-preserved-in-Continue-branch-2 c =
    let own = keys_in c.args.entries.now in
    spread_more (own ++ c.loop-pair.taken) (own ++ c.take.new.self) c.as_str.result.now c.in-Some.pair (into_iter_items c.next.new.self) c.loop-pair.all.items c.push.new.self.items
    (into_iter_items c.loop-pair.pair-iterator) (c.args.pairs.items ++ new_pairs own c.args.more.items) c.in_ok-push.ensures.items c.in-Some.ensures.steps.0 c.as_str.ensures
    (sym c.if-branch.true ∙ c.in_ok-take.ensures.new) c.in_ok-take.ensures.keys c.loop-pair.invariant
