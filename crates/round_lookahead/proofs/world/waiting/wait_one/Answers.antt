use Rattle.std.proofs.lemmas.Result.{on_ok_weaker}
use Rattle.round_lookahead.proofs.PlaceSteps.{same_hosts, waits_more, waits_home}
use Rattle.round_lookahead.proofs.world.waiting.wait_one.Goals as goal

pub returns-clause-hosts : goal.returns-clause-hosts
returns-clause-hosts c = on_ok_weaker c.wait.result
    (λ more. same_hosts c.args.tasks.now c.args.parcel.to.index c.index-tasks-to.result _ c.requires more.id more.host) c.wait.ensures

pub returns-clause-events : goal.returns-clause-events
returns-clause-events c = on_ok_weaker c.wait.result
    (λ more. waits_more c.args.tasks.now c.args.parcel.to.index c.index-tasks-to.result _ more.boxed c.requires more.joins c.args.parcel more.holds) c.wait.ensures

pub returns-clause-theirs : goal.returns-clause-theirs
returns-clause-theirs c = on_ok_weaker c.wait.result
    (λ more net to all. waits_home c.args.tasks.now c.args.parcel.to.index c.index-tasks-to.result _ more.boxed c.requires more.joins c.args.parcel more.holds net to all) c.wait.ensures
