use Rattle.std.proofs.Common.{Bool, All, subst}
use Rattle.std.proofs.lemmas.Result.{err_from_is_err_and}
use Rattle.sim_base.specs.Refusals.{◌>>=◌}
use Rattle.sim_base.proofs.RefusalLemmas.{weaker}
use Rattle.yaml_tree.specs.Trees.{is_empty}
use Rattle.yaml_merge.specs.Merge.{merged}
use Rattle.shd_config.specs.Config.{wrong_merge, merged_config, config}
use Rattle.shd_config.specs.Limits.{MayStop, IsSomeText, AreFewHosts, HasFewProcesses, HaveFewBytes, IsWithinLimits}
use Rattle.shd_config.specs.Steps.{Gives}
use Rattle.shd_config.specs.declared.config.Config.{Config}
use Rattle.shd_config.proofs.LimitLaws.{answers_within}
use Rattle.shd_config.proofs.StepLaws.{first_fails, then_gives}
use Rattle.shd_config.proofs.reading.config_of.Goals as goal

pub returns-in_err-merged-clause-told : goal.returns-in_err-merged-clause-told
unfolding config
returns-in_err-merged-clause-told c = λ said holds plain shallow.
    let p = err_from_is_err_and c.from_residual.result c.from_residual.ensures.1 in rw (p.1, p.2)
    (first_fails c.in_err-merged.field-0.0 (wrong_merge (merged said)) (merged_config c.args.overrides.now (is_empty c.args.tree.now)) (c.in_err-merged.ensures said holds plain shallow))

pub returns-clause-told : goal.returns-clause-told
unfolding config
returns-clause-told c = λ said holds plain shallow.
    subst (λ (empty : Bool). Gives c.merged_config.result (wrong_merge (merged said) >>= merged_config c.args.overrides.now empty)) c.is_empty.ensures
    (then_gives c.merged_config.result (wrong_merge (merged said)) (merged_config c.args.overrides.now c.is_empty.result) c.in_ok-merged.merged (c.in_ok-merged.ensures said holds plain shallow) c.merged_config.ensures)

pub returns-clause-few : goal.returns-clause-few
returns-clause-few c =
    weaker IsWithinLimits (λ (x : Config). AreFewHosts x.hosts) c.merged_config.result
    (answers_within c.args.overrides.now c.requires c.is_empty.result c.in_ok-merged.merged c.merged_config.result c.merged_config.ensures) (λ x h. h.few)

pub returns-clause-processes : goal.returns-clause-processes
returns-clause-processes c =
    weaker IsWithinLimits (λ (x : Config). All HasFewProcesses x.hosts) c.merged_config.result
    (answers_within c.args.overrides.now c.requires c.is_empty.result c.in_ok-merged.merged c.merged_config.result c.merged_config.ensures) (λ x h. h.processes)

pub returns-clause-texts : goal.returns-clause-texts
returns-clause-texts c =
    weaker IsWithinLimits (λ (x : Config). All HaveFewBytes x.hosts) c.merged_config.result
    (answers_within c.args.overrides.now c.requires c.is_empty.result c.in_ok-merged.merged c.merged_config.result c.merged_config.ensures) (λ x h. h.texts)

pub returns-clause-stop : goal.returns-clause-stop
returns-clause-stop c =
    weaker IsWithinLimits (λ (x : Config). MayStop x.stop_time) c.merged_config.result
    (answers_within c.args.overrides.now c.requires c.is_empty.result c.in_ok-merged.merged c.merged_config.result c.merged_config.ensures) (λ x h. h.stop)

pub returns-clause-directory : goal.returns-clause-directory
returns-clause-directory c =
    weaker IsWithinLimits (λ (x : Config). IsSomeText x.data_directory) c.merged_config.result
    (answers_within c.args.overrides.now c.requires c.is_empty.result c.in_ok-merged.merged c.merged_config.result c.merged_config.ensures) (λ x h. h.directory)
