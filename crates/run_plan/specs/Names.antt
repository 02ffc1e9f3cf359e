-- The names of hosts.
use Rattle.std.specs.Prelude.{◌≡◌, ℕ, List, map, Some, slice_get}
use Rattle.shd_config.specs.declared.config.HostConfig.{HostConfig}
use Rattle.run_plan.specs.declared.host_row.HostRow.{HostRow}
use Rattle.run_plan.specs.declared.plan.Plan.{Plan}
use Rattle.run_plan.specs.declared.planned.Planned.{Planned}
use Rattle.run_plan.specs.declared.planned.Planned.TheVariants.{Shows, Runs, Lists}

-- each name stands at one place alone
abbrev pub AreApart : List (List ℕ) → Type 0
AreApart names = (name : List ℕ) (i j : ℕ) → slice_get names i ≡ Some name → slice_get names j ≡ Some name → i ≡ j

-- no two hosts of a configuration have one name
abbrev pub AreHostsApart : List HostConfig → Type 0
AreHostsApart hosts = AreApart (map (λ h. h.name) hosts)

-- no two hosts of a plan have one name
abbrev pub AreRowsApart : Plan → Type 0
AreRowsApart plan = AreApart (map (λ (r : HostRow). r.config.name) plan.rows)

-- the same of what is shown or run
abbrev pub AreNamesApart : Planned → Type 0
AreNamesApart (Shows config) = AreHostsApart config.hosts
AreNamesApart (Runs run) = AreRowsApart run.plan
AreNamesApart (Lists capture) = Unit {0}
