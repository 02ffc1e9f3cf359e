use Rattle.std.proofs.Common.{sym, ◌∙◌}
use Rattle.std.proofs.lemmas.Option.{same_Some}
use Rattle.yaml_tree.proofs.FlowLaws.{flow_reader}
use Rattle.yaml_tree.proofs.laws.one_form.Goals as goal

pub returns : goal.returns
returns c pieces a b h k = same_Some a b (sym (flow_reader.complete pieces a h) ∙ flow_reader.complete pieces b k)
