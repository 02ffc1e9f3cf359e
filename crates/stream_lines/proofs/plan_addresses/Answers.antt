use Rattle.stream_lines.proofs.Planned.{planned_rows}
use Rattle.stream_lines.proofs.Rows.{addressed, own_addresses, host_addresses}
use Rattle.stream_lines.proofs.plan_addresses.Goals as goal

pub returns-clause-own : goal.returns-clause-own
returns-clause-own c = λ words held run is. own_addresses run.plan.rows (addressed run.plan.rows (planned_rows words held run is))

pub returns-clause-may : goal.returns-clause-may
returns-clause-may c = λ words held run is. host_addresses run.plan.rows (addressed run.plan.rows (planned_rows words held run is))
