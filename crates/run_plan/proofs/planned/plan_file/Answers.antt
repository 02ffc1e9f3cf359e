use Rattle.std.proofs.Common.{List, ℕ, subst}
use Rattle.std.specs.Prelude.{Ok}
use Rattle.std.proofs.lemmas.Result.{err_from_is_err_and}
use Rattle.run_plan.specs.File.{read}
use Rattle.run_plan.specs.Configured.{configured}
use Rattle.run_plan.specs.Plan.{plan_of}
use Rattle.run_plan.specs.Reading.{Stops}
use Rattle.run_plan.specs.declared.planned.Planned.{Planned}
use Rattle.run_plan.proofs.ConfiguredLemmas.{config_counted}
use Rattle.run_plan.proofs.PlannedLemmas.{text_stops, plan_stops, file_run}
use Rattle.run_plan.proofs.StepLemmas.{when_told, when_both}
use Rattle.run_plan.proofs.planned.plan_file.Goals as goal

pub returns-in_err-text-clause-told : goal.returns-in_err-text-clause-told
returns-in_err-text-clause-told g c =
    let p = err_from_is_err_and c.from_residual.result c.from_residual.ensures.1 in rw (p.1, p.2)
    (when_told (g.S.Source.held c.args.source.now)
    (λ held h. text_stops c.args.manner.now held c.args.name.now c.in_err-text.field-0.0 (subst (λ (n : List ℕ). Stops (read held n) c.in_err-text.field-0.0) c.as_str.ensures h))
    c.in_err-text.ensures.told)

pub returns-in_err-plan-clause-told : goal.returns-in_err-plan-clause-told
returns-in_err-plan-clause-told g c =
    let name : (configured c.args.name.now c.deref.result.now c.args.manner.now.overrides).answers (Ok c.in_ok-config.config) =
    subst (λ (n : List ℕ). (configured n c.deref.result.now c.args.manner.now.overrides).answers (Ok c.in_ok-config.config)) c.as_str-2.ensures c.in_ok-config.ensures.told in
    let said : (configured c.args.name.now c.in_ok-text.text.items c.args.manner.now.overrides).answers (Ok c.in_ok-config.config) =
    subst (λ (t : List ℕ). (configured c.args.name.now t c.args.manner.now.overrides).answers (Ok c.in_ok-config.config)) c.deref.ensures.value name in
    let p = err_from_is_err_and c.from_residual-in_err-plan.result c.from_residual-in_err-plan.ensures.1 in rw (p.1, p.2)
    (when_both (g.S.Source.held c.args.source.now)
    (λ held h k. plan_stops c.args.manner.now held c.args.name.now c.in_ok-text.text.items (subst (λ (n : List ℕ). (read held n).answers (Ok c.in_ok-text.text.items)) c.as_str.ensures h)
    c.in_ok-config.config said c.in_err-plan.field-0.0 c.if-manner.false (subst (λ (n : List ℕ). Stops (plan_of held n c.in_ok-config.config) c.in_err-plan.field-0.0) c.as_str-3.ensures k))
    c.in_ok-text.ensures.told (rw c.in_ok-text.ensures.same at c.in_err-plan.ensures.told))

pub returns-in_err-config-clause-count : goal.returns-in_err-config-clause-count
returns-in_err-config-clause-count g c =
    let p = err_from_is_err_and c.from_residual-in_err-config.result c.from_residual-in_err-config.ensures.1 in rw (p.1, p.2, c.in_ok-text.ensures.count)
    (config_counted Planned c.as_str-2.result.now c.deref.result.now c.args.manner.now.overrides c.in_err-config.field-0.0 _ c.in_err-config.ensures.told)

pub returns-clause-told : goal.returns-clause-told
returns-clause-told g c =
    let name : (configured c.args.name.now c.deref.result.now c.args.manner.now.overrides).answers (Ok c.in_ok-config.config) =
    subst (λ (n : List ℕ). (configured n c.deref.result.now c.args.manner.now.overrides).answers (Ok c.in_ok-config.config)) c.as_str-2.ensures c.in_ok-config.ensures.told in
    let said : (configured c.args.name.now c.in_ok-text.text.items c.args.manner.now.overrides).answers (Ok c.in_ok-config.config) =
    subst (λ (t : List ℕ). (configured c.args.name.now t c.args.manner.now.overrides).answers (Ok c.in_ok-config.config)) c.deref.ensures.value name in
    when_both (g.S.Source.held c.args.source.now)
    (λ held h k. file_run c.args.manner.now held c.args.name.now c.in_ok-text.text.items (subst (λ (n : List ℕ). (read held n).answers (Ok c.in_ok-text.text.items)) c.as_str.ensures h)
    c.in_ok-config.config said c.in_ok-plan.plan c.if-manner.false (subst (λ (n : List ℕ). (plan_of held n c.in_ok-config.config).answers (Ok c.in_ok-plan.plan)) c.as_str-3.ensures k))
    c.in_ok-text.ensures.told (rw c.in_ok-text.ensures.same at c.in_ok-plan.ensures.told)

pub returns-clause-apart : goal.returns-clause-apart
returns-clause-apart g c = c.in_ok-plan.ensures.apart c.in_ok-config.ensures.apart
