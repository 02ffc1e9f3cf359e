use Rattle.std.proofs.Common.{ap, Result}
use Rattle.host_wants.specs.declared.error.Refusal.{Refusal}
use Rattle.host_calls.specs.declared.parts.Reaction.{Reaction}
use Rattle.host_calls.specs.Calls.{answered}
use Rattle.host_calls.specs.Parts.{Scene}
use Rattle.call_laws.proofs.refusals.Goals as goal

pub returns : goal.returns
returns c = record {
  answer = λ known now process number args s errno e. ap (λ (r : Result (Reaction × Scene) Refusal). (answered now process number args r s).0) e;
  unchanged = λ known now process number args s errno e. ap (λ (r : Result (Reaction × Scene) Refusal). (answered now process number args r s).1) e;
}
