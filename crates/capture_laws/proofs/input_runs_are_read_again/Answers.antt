use Rattle.host_link.specs.Logs.{lines_of}
use Rattle.plan_rows.specs.Rows.{rows_of, net_of}
use Rattle.stream_lines.proofs.Runs.{stops}
use Rattle.capture_laws.proofs.Again.{eth0_again, lo_again}
use Rattle.capture_laws.proofs.Fitting.{input_fit}
use Rattle.capture_laws.proofs.Worlds.{reached_in_range}
use Rattle.capture_laws.proofs.input_runs_are_read_again.Goals as goal

pub returns-clause-eth0 : goal.returns-clause-eth0
returns-clause-eth0 c = λ i run w k h size bytes is reached there large fits.
    eth0_again size k h.row.address (lines_of w.log) large fits (input_fit i run w bytes is reached) (reached_in_range (net_of run) (rows_of run) w (stops i run is) reached)

pub returns-clause-lo : goal.returns-clause-lo
returns-clause-lo c = λ i run w k h size bytes is reached there large fits.
    lo_again size k h.row.address (lines_of w.log) large fits (input_fit i run w bytes is reached) (reached_in_range (net_of run) (rows_of run) w (stops i run is) reached)
