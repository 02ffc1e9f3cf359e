use Rattle.std.proofs.Common.{ℕ, List, Option, option_map, ap, subst, ◌∙◌}
use Rattle.std.proofs.lemmas.Result.{err_from_is_err_and}
use Rattle.run_outside.specs.Sink.{Content}
use Rattle.net_run.specs.Pieces.{with_pieces, PutsFront}
use Rattle.net_run.specs.Shown.{note_puts}
use Rattle.shadow_top.proofs.RunLemmas.{noted, notes_stopped}
use Rattle.shadow_top.proofs.simulation.run_begun.Goals as goal

pub returns-in_err-put_notes-clause-told : goal.returns-in_err-put_notes-clause-told
returns-in_err-put_notes-clause-told g c =
    let old : Option Content = g.K.Sink.content c.args.sink.now in
    let new : Option Content = g.K.Sink.content c.put_notes.new.sink in
    let p = err_from_is_err_and c.from_residual.result c.from_residual.ensures.1 in
    rw p.1 (notes_stopped c.one_result.ensures.at_least c.one_result.ensures.opening c.parts_are_between.ensures c.args.opened old new p.0 c.requires
    (subst (λ (ns : List (List ℕ)). PutsFront (note_puts ns) old new) c.as_slice.ensures c.in_err-put_notes.ensures.err))

pub returns-clause-told : goal.returns-clause-told
returns-clause-told g c =
    let old : Option Content = g.K.Sink.content c.args.sink.now in
    noted c.parts_are_between.ensures c.args.opened old (g.K.Sink.content c.put_notes.new.sink) (g.K.Sink.content c.run_noted.new.sink) c.run_noted.result
    (c.in_ok-put_notes.ensures.ok ∙ ap (λ (ns : List (List ℕ)). option_map (with_pieces (note_puts ns)) old) c.as_slice.ensures) c.run_noted.ensures.told
