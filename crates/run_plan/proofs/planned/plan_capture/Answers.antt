use Rattle.std.proofs.Common.{List, ℕ, subst}
use Rattle.std.proofs.lemmas.Result.{err_from_is_err_and}
use Rattle.run_plan.specs.File.{read}
use Rattle.run_plan.specs.Reading.{Stops}
use Rattle.run_plan.proofs.PlannedLemmas.{capture_stops}
use Rattle.run_plan.proofs.StepLemmas.{when_told}
use Rattle.run_plan.proofs.planned.plan_capture.Goals as goal

pub returns-in_err-bytes-clause-told : goal.returns-in_err-bytes-clause-told
returns-in_err-bytes-clause-told g c =
    let p = err_from_is_err_and c.from_residual.result c.from_residual.ensures.1 in rw (p.1, p.2)
    (when_told (g.S.Source.held c.args.source.now)
    (λ held h. capture_stops held c.args.name.now c.in_err-bytes.field-0.0 (subst (λ (n : List ℕ). Stops (read held n) c.in_err-bytes.field-0.0) c.as_str.ensures h))
    c.in_err-bytes.ensures.told)
