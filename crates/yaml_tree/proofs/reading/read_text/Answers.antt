use Rattle.std.proofs.Common.{◌∙◌, sym, Bool, false, None}
use Rattle.std.proofs.lemmas.Result.{err_from_is_err_and}
use Rattle.yaml_tokens.specs.Lines.{lines_of, split_lines}
use Rattle.yaml_tree.specs.inside.Builder.{read_lines}
use Rattle.yaml_tokens.specs.declared.place.LinePlace.TheVariants.{Outside}
use Rattle.yaml_tree.proofs.ReadingLaws.{root_is_in, error_passes}
use Rattle.yaml_tree.proofs.reading.read_text.Goals as goal

pub finish-requires : goal.finish-requires
finish-requires c = root_is_in (lines_of c.args.text.now) c.args.alloc c.read_lines.new.builder
    (sym (λ j. read_lines false (Outside None) 1 (split_lines (c.without_mark-bytes.ensures j)) (c.new-builder.ensures j)) ∙ c.in_ok-empty.ensures.read)

pub returns-in_err-empty-clause-read : goal.returns-in_err-empty-clause-read
returns-in_err-empty-clause-read c = let p = err_from_is_err_and c.from_residual.result c.from_residual.ensures.1 in rw (p.1, p.2)
    (error_passes Bool _ c.read_lines.new.builder _ _ (λ j. read_lines false (Outside None) 1 (split_lines (c.without_mark-bytes.ensures j)) (c.new-builder.ensures j)) c.in_err-empty.ensures.read)

pub returns-clause-read : goal.returns-clause-read
returns-clause-read c = (c.read_lines.new.builder, (sym (λ j. read_lines false (Outside None) 1 (split_lines (c.without_mark-bytes.ensures j)) (c.new-builder.ensures j)) ∙ c.in_ok-empty.ensures.read), c.in_ok-finish.ensures.whole)
