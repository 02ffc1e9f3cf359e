use Rattle.run_files.specs.Listed.{said}
use Rattle.net_run.specs.Rest.{host_rest}
use Rattle.net_run.proofs.FrontLemmas.{front_none}
use Rattle.net_run.proofs.ending.put_states.Goals as goal

pub returns-in-Err-clause-err : goal.returns-in-Err-clause-err
returns-in-Err-clause-err g c = front_none (host_rest (said c.args.host.now) c.args.states.now) (g.K.Sink.content c.args.sink.now)
