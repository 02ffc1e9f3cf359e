use Rattle.std.proofs.Common.{List, sym, refl, subst}
use Rattle.sim_base.specs.declared.event.Parcel.{Parcel}
use Rattle.round_lookahead.specs.inside.Works.{HasRun, done_of}
use Rattle.round_lookahead.proofs.IdleSteps.{idle_run}
use Rattle.round_lookahead.proofs.workers.host_task.HostTask.run_if_busy.Goals as goal

pub returns-clause-run : goal.returns-clause-run
returns-clause-run c = λ h is.
    let t = c.args.self.now in
    let out = c.new.result in
    subst (λ (ps : List Parcel). HasRun c.args.net.now c.args.end.nanos t h (done_of t out) ps) (sym c.new.ensures.parcels)
    (idle_run c.args.net.now c.args.end.nanos t h (done_of t out) is (c.is_busy.ensures.0 c.if-is_busy.false) refl refl c.new.ensures.lines c.new.ensures.outputs)
