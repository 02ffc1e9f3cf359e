use Rattle.run_streams.proofs.Homes.{records_home}
use Rattle.run_streams.proofs.Insides.{within}
use Rattle.plan_rows.specs.Rows.{rows_of, net_of}
use Rattle.stream_lines.proofs.Runs.{are_hosts}
use Rattle.stream_lines.proofs.hosts_of_runs.Goals as goal

pub returns-clause-hosts : goal.returns-clause-hosts
returns-clause-hosts c = are_hosts

pub returns-clause-home : goal.returns-clause-home
returns-clause-home c = λ i run w k h is reached there. records_home (net_of run) (rows_of run) (are_hosts i run is) w reached k h there

pub returns-clause-within : goal.returns-clause-within
returns-clause-within c = λ i run w k h from to is reached there stays.
    let are = are_hosts i run is in within (net_of run) (rows_of run) w k h from to are.outside are.placed reached there stays
