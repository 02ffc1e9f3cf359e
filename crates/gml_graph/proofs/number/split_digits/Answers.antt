use Rattle.std.specs.Char.{is_ascii_digit}
use Rattle.gml_graph.proofs.NumberLemmas.{all_at_front}
use Rattle.gml_graph.proofs.number.split_digits.Goals as goal

pub returns-clause-all : goal.returns-clause-all
returns-clause-all c = rw (c.split_at.ensures.front, c.count_digits-count.ensures.value) (all_at_front is_ascii_digit c.args.bytes.now)
