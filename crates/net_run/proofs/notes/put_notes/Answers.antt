use Rattle.std.proofs.Common.{List, map, ap, subst, ◌∙◌}
use Rattle.run_files.specs.Files.{Put, put_of}
use Rattle.net_run.specs.Pieces.{PutsFront}
use Rattle.net_run.proofs.FrontLemmas.{front_none}
use Rattle.net_run.proofs.PieceLemmas.{on_err}
use Rattle.net_run.specs.Shown.{note_puts}
use Rattle.net_run.proofs.notes.put_notes.Goals as goal

pub returns-in-Err-clause-err : goal.returns-in-Err-clause-err
returns-in-Err-clause-err g c = front_none (note_puts c.args.notes.now) (g.K.Sink.content c.args.sink.now)

pub returns-in_err-put_pieces-clause-err : goal.returns-in_err-put_pieces-clause-err
returns-in_err-put_pieces-clause-err g c = on_err c.from_residual.result
    (subst (λ (l : List Put). PutsFront l (g.K.Sink.content c.args.sink.now) (g.K.Sink.content c.put_pieces.new.sink)) (ap (map put_of) c.deref.ensures.value ∙ c.in-Ok.ensures) c.in_err-put_pieces.ensures.err)
