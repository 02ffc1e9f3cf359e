-- The hosts of an input that is run.
use Rattle.std.proofs.Common.{◌≤◌, refl}
use Rattle.sim_base.specs.Units.{latest_time}
use Rattle.host_state.specs.World.{World, opening_world}
use Rattle.run_plan.specs.declared.planned.Run.{Run}
use Rattle.run_streams.specs.Run.{IsReached, AreHosts}
use Rattle.run_streams.specs.Run.IsReached.{begins}
use Rattle.run_streams.proofs.Histories.{result_reached}
use Rattle.shadow_top.specs.Input.{Input, IsToRun}
use Rattle.plan_rows.specs.Rows.{rows_of, net_of}
use Rattle.shadow_top.specs.Shown.{IsRunTo}
use Rattle.stream_lines.proofs.Hosts.{run_hosts}
use Rattle.stream_lines.proofs.Planned.{planned_rows, planned_stop}
use Rattle.stream_lines.proofs.Rows.{addressed, own_addresses, host_addresses}

pub are_hosts : (i : Input) (run : Run) → IsToRun i run → AreHosts (net_of run) (rows_of run)
are_hosts i run is =
    let has = addressed run.plan.rows (planned_rows i.words i.held run is.asked) in run_hosts run (own_addresses run.plan.rows has) (host_addresses run.plan.rows has)

-- it stops in time
pub stops : (i : Input) (run : Run) → IsToRun i run → (net_of run).stop.nanos ≤ latest_time
stops i run is = (planned_stop i.words i.held run is.asked).1

-- the result is a world that the run reaches
pub reached : (run : Run) (w : World) → IsRunTo run w → IsReached (net_of run) (opening_world (rows_of run)) w
reached run w result =
    let first = opening_world (rows_of run) in result_reached (net_of run) first w first (begins first refl) result
