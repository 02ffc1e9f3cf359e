use Rattle.plan_rows.specs.Rows.{rows_of, net_of}
use Rattle.stream_lines.proofs.Runs.{are_hosts}
use Rattle.capture_laws.proofs.Placing.{placed, lo_is_past}
use Rattle.capture_laws.proofs.loopback_in_runs.Goals as goal

pub returns-clause-lo : goal.returns-clause-lo
returns-clause-lo c = λ i run w k h is reached at. lo_is_past (net_of run) (rows_of run) (are_hosts i run is) w reached k h at

pub returns-clause-lines : goal.returns-clause-lines
returns-clause-lines c = λ i run w k h l is reached at there here. placed (net_of run) (rows_of run) (are_hosts i run is) w reached k h at l there here
