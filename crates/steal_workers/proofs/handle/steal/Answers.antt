use Rattle.std.proofs.Common.{arith}
use Rattle.steal_workers.proofs.Steps.{takes, finds_few}
use Rattle.steal_workers.proofs.handle.steal.Goals as goal

pub steal_as-requires-clause-takes : goal.steal_as-requires-clause-takes
steal_as-requires-clause-takes g c = takes _ _ c.requires.unmarked

pub steal_as-requires-clause-empty : goal.steal_as-requires-clause-empty
steal_as-requires-clause-empty g c = λ items views few h at. finds_few _ _ items views (let fifo = c.requires.fifo in omega arith) h at
