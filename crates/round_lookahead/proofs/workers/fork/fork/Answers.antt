use denote.Param.Send.{sendable}
use Rattle.round_lookahead.proofs.Crossing.{bench_send}
use Rattle.round_lookahead.proofs.workers.fork.fork.Goals as goal

pub for_each_mut-requires-send-T : goal.for_each_mut-requires-send-T
for_each_mut-requires-send-T g c κs within = search (bench_send, sendable) depth 20
