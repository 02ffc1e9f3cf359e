use Rattle.round_parts.proofs.DeliverySteps.{row-home, row-more}
use Rattle.round_parts.proofs.delivery.deliver_one.Goals as goal

pub returns-clause-events : goal.returns-clause-events
returns-clause-events c =
    row-more c.args.rows.now.items c.args.parcel.to.index c.index_mut.result.now c.push.new.self c.in_ok-boxed.boxed c.args.parcel c.requires c.index_mut.ensures.value
    c.in_ok-push.ensures.items c.in_ok-boxed.ensures.ok

pub returns-clause-theirs : goal.returns-clause-theirs
returns-clause-theirs c = λ net to all.
    row-home c.args.rows.now.items c.args.parcel.to.index c.index_mut.result.now c.push.new.self c.in_ok-boxed.boxed c.args.parcel c.requires c.index_mut.ensures.value
    c.in_ok-push.ensures.items c.in_ok-boxed.ensures.ok net to all
