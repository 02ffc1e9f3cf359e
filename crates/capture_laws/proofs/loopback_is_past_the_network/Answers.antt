use Rattle.capture_laws.proofs.Placing.{placed, lo_is_past}
use Rattle.capture_laws.proofs.loopback_is_past_the_network.Goals as goal

pub returns-clause-lo : goal.returns-clause-lo
returns-clause-lo c = λ net rows w i h are reached at. lo_is_past net rows are w reached i h at

pub returns-clause-lines : goal.returns-clause-lines
returns-clause-lines c = λ net rows w i h l are reached at there here. placed net rows are w reached i h at l there here
