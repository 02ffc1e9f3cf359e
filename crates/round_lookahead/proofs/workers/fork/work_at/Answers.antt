use Rattle.std.proofs.Common.{refl}
use Rattle.round_lookahead.proofs.BenchSteps.{bench_worked}
use Rattle.round_lookahead.proofs.workers.fork.work_at.Goals as goal

pub returns : goal.returns
returns g c = bench_worked c.args.net.now c.args.end.nanos c.args.bench.now _ c.work.result refl c.work.ensures.same c.work.ensures.boards c.ok.ensures.value c.work.ensures.marked c.work.ensures.worked
