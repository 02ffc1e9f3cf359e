use Rattle.std.proofs.Common.{refl}
use Rattle.run_streams.specs.Run.IsReached.{begins}
use Rattle.run_streams.proofs.Worlds.{wide}
use Rattle.run_streams.proofs.Insides.{within}
use Rattle.run_streams.proofs.Histories.{result_reached}
use Rattle.run_streams.proofs.runs_faithful.Goals as goal

pub returns-clause-wide : goal.returns-clause-wide
returns-clause-wide c = wide

pub returns-clause-within : goal.returns-clause-within
returns-clause-within c = within

pub returns-clause-result : goal.returns-clause-result
returns-clause-result c = λ net first result is. result_reached net first result first (begins first refl) is
