use Rattle.gml_graph.proofs.GrammarLaws.{outline_Ok, Spells_outline, outline_Err, IsFirstFault_outline}
use Rattle.gml_graph.proofs.laws.grammar.Goals as goal

pub returns-clause-outline : goal.returns-clause-outline
returns-clause-outline c = λ text rows. (outline_Ok text rows, Spells_outline text rows)

pub returns-clause-fault : goal.returns-clause-fault
returns-clause-fault c = λ text fault. (outline_Err text fault, IsFirstFault_outline text fault)
