use Rattle.call_laws.proofs.KeptCall.{kept_call_answers_is}
use Rattle.call_laws.proofs.kept_call_answers.Goals as goal

pub returns : goal.returns
returns c = kept_call_answers_is
