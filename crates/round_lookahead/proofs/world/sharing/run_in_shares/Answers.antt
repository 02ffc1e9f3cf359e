use Rattle.std.proofs.lemmas.Result.{IfOk-weaker}
use Rattle.round_lookahead.proofs.ShareSteps.{ready_shares}
use Rattle.round_lookahead.proofs.world.sharing.run_in_shares.Goals as goal

pub run_shares-requires-clause-ready : goal.run_shares-requires-clause-ready
run_shares-requires-clause-ready g c κs within = ready_shares c.args.net.now c.args.shares.items c.requires.tasks

pub returns-clause-took : goal.returns-clause-took
returns-clause-took g c = IfOk-weaker c.join_shares.result _ _ (λ j are. (are c.args.net.now c.args.end.nanos c.args.shares.items c.run_shares.ensures).0) c.join_shares.ensures

pub returns-clause-run : goal.returns-clause-run
returns-clause-run g c = IfOk-weaker c.join_shares.result _ _ (λ j are. (are c.args.net.now c.args.end.nanos c.args.shares.items c.run_shares.ensures).1) c.join_shares.ensures
