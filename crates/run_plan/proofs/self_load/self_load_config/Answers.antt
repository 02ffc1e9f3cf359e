use Rattle.run_plan.specs.SelfLoad.{self_load_config}
use Rattle.run_plan.proofs.LimitLemmas.{config_within, self_load_within}
use Rattle.run_plan.proofs.NameLemmas.{ring_apart, config_apart_as}
use Rattle.run_plan.proofs.self_load.self_load_config.Goals as goal

pub returns-clause-limits : goal.returns-clause-limits
returns-clause-limits c =
    config_within (self_load_config c.args.overrides.now c.args.hosts) c.ring_config.result c.ring_config.ensures (self_load_within c.args.overrides.now c.args.hosts c.requires.some c.requires.few c.requires.overrides)

pub returns-clause-apart : goal.returns-clause-apart
returns-clause-apart c =
    config_apart_as (self_load_config c.args.overrides.now c.args.hosts) c.ring_config.result c.ring_config.ensures (ring_apart c.args.overrides.now c.args.hosts c.requires.few)
