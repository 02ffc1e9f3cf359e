use Rattle.host_state.specs.Fits.{model}
use Rattle.world_order.proofs.Results.{at_most_one}
use Rattle.round_lookahead.proofs.Reached.{result_between}
use Rattle.round_lookahead.proofs.WorldOpenings.{opened_between}
use Rattle.round_lookahead.proofs.laws.one_result.Goals as goal

pub returns-clause-at_most : goal.returns-clause-at_most
returns-clause-at_most c = λ net w r s left right. at_most_one (model net) net.stop.nanos r s w left right

pub returns-clause-at_least : goal.returns-clause-at_least
returns-clause-at_least c = result_between

pub returns-clause-opening : goal.returns-clause-opening
returns-clause-opening c = opened_between
