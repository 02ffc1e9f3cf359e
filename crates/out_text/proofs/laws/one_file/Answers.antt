use Rattle.out_text.proofs.TextLaws.{one_file}
use Rattle.out_text.proofs.laws.one_file.Goals as goal

pub returns : goal.returns
returns c = one_file
