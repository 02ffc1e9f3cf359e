use Rattle.std.proofs.Common.{◌≡◌, [], refl, arith}
use Rattle.std.specs.Vec.Iter.{into_iter_items}
use Rattle.std.proofs.lemmas.List.{nil_from_length}
use Rattle.round_lookahead.proofs.ShareSteps.{joining_none, joining_more, joining_all}
use Rattle.round_lookahead.proofs.world.sharing.join_shares.Goals as goal

pub loop-share-init : goal.loop-share-init
loop-share-init c = λ net end old ran.
    (let alone = c.new-2.ensures in
    joining_none net end old c.args.shares.items _ _ c.into_iter-share-iterator.ensures.into_iter_gives.0 c.new.ensures.items c.new-3.ensures.items alone.outputs alone.lines alone.spill alone.due)

pub loop-share-preserved : goal.loop-share-preserved
loop-share-preserved c = λ net end old ran.
    joining_more net end old c.args.shares.items (into_iter_items c.loop-share.share-iterator) (into_iter_items c.next.new.self) c.in-Some.share c.loop-share.joined c.add.new.self ran
    c.in-Some.ensures.steps.0 c.in_ok-add.ensures (c.loop-share.invariant net end old ran)

pub returns : goal.returns
returns c = λ net end old ran.
    (let none : into_iter_items c.loop-share.share-iterator ≡ [] = nil_from_length (into_iter_items c.loop-share.share-iterator) (let e = c.in-None.ensures.steps.0 in omega (arith, c.loop-share.share-iterator.rest.ok.0)) in
    joining_all net end old c.args.shares.items (into_iter_items c.loop-share.share-iterator) c.loop-share.joined ran none (c.loop-share.invariant net end old ran))
