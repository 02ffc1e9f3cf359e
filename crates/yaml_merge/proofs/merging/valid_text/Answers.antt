use Rattle.std.proofs.Common.{sym, ◌∙◌}
use Rattle.yaml_merge.proofs.HeldLaws.{valid_text_utf8, valid_text_broken}
use Rattle.yaml_merge.proofs.merging.valid_text.Goals as goal

pub returns-in-Ok : goal.returns-in-Ok
returns-in-Ok c = c.in-Ok.ensures.cases.0 ∙ sym (valid_text_utf8 c.args.bytes.now c.in-Ok.ensures.cases.1)

pub returns-in-Err : goal.returns-in-Err
returns-in-Err c = sym (valid_text_broken c.args.bytes.now c.in-Err.ensures.cases.0)
