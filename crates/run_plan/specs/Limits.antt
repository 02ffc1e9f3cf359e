-- The limits of configurations, to which each plan keeps.
use Rattle.std.specs.Prelude.{◌<◌, ◌≤◌, length, All}
use Rattle.sim_base.specs.Limits.{most_hosts}
use Rattle.shd_config.specs.Limits.{MayStop, HasFewProcesses, HaveFewBytes, IsWithinLimits}
use Rattle.run_plan.specs.declared.host_row.HostRow.{HostRow}
use Rattle.run_plan.specs.declared.plan.Plan.{Plan}
use Rattle.run_plan.specs.declared.planned.Planned.{Planned}
use Rattle.run_plan.specs.declared.planned.Planned.TheVariants.{Shows, Runs, Lists}

-- at least one host, each with few processes, whose texts take few bytes; a stop within its range
pub record KeepsToLimits (plan : Plan) : Type 0 where
  pub some : 0 < length plan.rows
  pub few : length plan.rows ≤ most_hosts
  pub processes : All (λ (r : HostRow). HasFewProcesses r.config) plan.rows
  pub texts : All (λ (r : HostRow). HaveFewBytes r.config) plan.rows
  pub stop : MayStop plan.settings.stop_time

-- the same of what is shown or run
abbrev pub AreLimitsKept : Planned → Type 0
AreLimitsKept (Shows config) = IsWithinLimits config
AreLimitsKept (Runs run) = KeepsToLimits run.plan
AreLimitsKept (Lists capture) = Unit {0}
