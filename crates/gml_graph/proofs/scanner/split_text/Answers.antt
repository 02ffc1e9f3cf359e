use Rattle.std.proofs.Common.{arith}
use Rattle.std.proofs.lemmas.Str.Pattern.{split_once_first}
use Rattle.sim_base.specs.Ascii.{quotation_mark}
use Rattle.gml_graph.proofs.scanner.split_text.Goals as goal

pub returns : goal.returns
returns c = split_once_first quotation_mark c.args.text.now _ c.split_once.ensures.cases (omega arith)
