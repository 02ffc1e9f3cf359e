use Rattle.yaml_tokens.proofs.SpellingLaws.{quoted_scalars}
use Rattle.yaml_tokens.proofs.laws.quoted_scalars.Goals as goal

pub returns : goal.returns
returns c = quoted_scalars
