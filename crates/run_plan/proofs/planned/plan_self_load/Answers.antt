use Rattle.std.proofs.lemmas.Result.{err_from_is_err_and}
use Rattle.run_plan.proofs.PlannedLemmas.{self_load_run}
use Rattle.run_plan.proofs.planned.plan_self_load.Goals as goal

pub returns-in_err-config-clause-told : goal.returns-in_err-config-clause-told
returns-in_err-config-clause-told g c =
    let p = err_from_is_err_and c.from_residual.result c.from_residual.ensures.1 in rw (p.1, p.2) tt

pub returns-in_err-graph-clause-told : goal.returns-in_err-graph-clause-told
returns-in_err-graph-clause-told g c =
    let p = err_from_is_err_and c.from_residual-in_err-graph.result c.from_residual-in_err-graph.ensures.1 in rw (p.1, p.2) tt

pub returns-in_err-ring_bytes-clause-told : goal.returns-in_err-ring_bytes-clause-told
returns-in_err-ring_bytes-clause-told g c =
    let p = err_from_is_err_and c.from_residual-in_err-ring_bytes.result c.from_residual-in_err-ring_bytes.ensures.1 in rw (p.1, p.2) tt

pub returns-clause-told : goal.returns-clause-told
returns-clause-told g c =
    self_load_run c.args.manner.now c.args.hosts c.in_ok-plan.plan c.in_ok-ring_bytes.field-0.items c.in_ok-graph.graph c.in_ok-config.config c.if-manner.false c.in_ok-ring_bytes.ensures
    c.in_ok-graph.ensures c.in_ok-config.ensures.config c.in_ok-plan.ensures.told

pub returns-clause-apart : goal.returns-clause-apart
returns-clause-apart g c = c.in_ok-plan.ensures.apart c.in_ok-config.ensures.apart
