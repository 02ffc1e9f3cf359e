use Rattle.std.proofs.Common.{◌+◌, ◌∙◌, ap, take, ◌==◌, arith}
use Rattle.std.specs.Prelude.{count_by}
use Rattle.std.proofs.lemmas.Str.{utf8_valid_len_le}
use Rattle.sim_base.specs.Ascii.{line_feed}
use Rattle.yaml_tree.proofs.ReadingLaws.{tree_read, error_read}
use Rattle.yaml_tree.proofs.reading.read_tree.Goals as goal

pub returns-in-Ok-clause-tree : goal.returns-in-Ok-clause-tree
returns-in-Ok-clause-tree c = tree_read c.args.text.now c.args.alloc c.read_text.result c.in-Ok.ensures.cases.1 c.read_text.ensures.read

pub returns-in-Ok-clause-fault : goal.returns-in-Ok-clause-fault
returns-in-Ok-clause-fault c = error_read c.args.text.now c.args.alloc c.read_text.result c.in-Ok.ensures.cases.1 c.read_text.ensures.read

pub line_of-requires : goal.line_of-requires
line_of-requires c = let most = utf8_valid_len_le c.args.text.now in omega (arith, most, c.valid_up_to.ensures, c.in-Err.ensures.valid_len)

pub returns-in-Err-clause-fault : goal.returns-in-Err-clause-fault
returns-in-Err-clause-fault c = (c.in-Err.ensures.cases.0, c.line_of.ensures ∙ ap (λ n. 1 + count_by (λ b. b == line_feed) (take n c.args.text.now)) (c.valid_up_to.ensures ∙ c.in-Err.ensures.valid_len))
