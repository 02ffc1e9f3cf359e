use Rattle.std.proofs.Common.{◌≡◌, false, Option, subst}
use Rattle.std.specs.Prelude.{◌↔◌}
use Rattle.sim_base.specs.declared.time.Time.{Time}
use Rattle.round_lookahead.specs.inside.Idles.{IsIdle}
use Rattle.round_lookahead.proofs.IdleSteps.{is_before, idle_where, none_wait}
use Rattle.round_lookahead.proofs.workers.host_task.HostTask.is_busy.Goals as goal

pub returns-in-Some : goal.returns-in-Some
returns-in-Some c =
    let t = c.args.self.now in
    subst (λ (o : Option Time). (is_before c.args.end.nanos o ≡ false) ↔ IsIdle c.args.end.nanos t) c.in-Some.is
    (idle_where c.args.end.nanos t (none_wait t c.is_empty.result c.is_empty.ensures c.if-not-is_empty.false))
