use Rattle.std.proofs.Common.{Option, option_map, ap, subst, ◌∙◌}
use Rattle.std.proofs.lemmas.Result.{err_from_is_err_and}
use Rattle.run_outside.specs.Sink.{Content}
use Rattle.run_files.specs.Listed.{names_of}
use Rattle.host_state.specs.World.{opening_world}
use Rattle.run_files.specs.declared.listed.Listing.{Listing}
use Rattle.net_run.specs.Heads.{all_heads}
use Rattle.net_run.specs.Pieces.{with_pieces, PutsFront}
use Rattle.shadow_top.proofs.RoundLemmas.{heads_put, heads_stopped}
use Rattle.shadow_top.proofs.rounds.put_run.Goals as goal

pub returns-in_err-put_heads-clause-told : goal.returns-in_err-put_heads-clause-told
returns-in_err-put_heads-clause-told g c = λ rows at own.
    (let old : Option Content = g.K.Sink.content c.args.sink.now in
    let new : Option Content = g.K.Sink.content c.put_heads.new.sink in
    let p = err_from_is_err_and c.from_residual.result c.from_residual.ensures.1 in
    rw p.1 (heads_stopped c.args.world.now rows at own c.runs_grow.ensures.begins (c.rounds_reach_the_result.ensures.begins c.args.world.now.net (opening_world rows))
    c.rounds_reach_the_result.ensures.extended c.runs_grow.ensures.front c.parts_are_between.ensures old new
    (subst (λ (l : Listing). PutsFront (all_heads (names_of l)) old new) c.listing.ensures c.in_err-put_heads.ensures.err)))

pub returns-clause-told : goal.returns-clause-told
returns-clause-told g c = λ rows at own.
    (let old : Option Content = g.K.Sink.content c.args.sink.now in
    let mid : Option Content = g.K.Sink.content c.put_heads.new.sink in
    c.put_rounds.ensures.told (opening_world rows) old at
    (heads_put c.args.world.now rows at own c.runs_grow.ensures.begins old mid
    (c.in_ok-put_heads.ensures.ok ∙ ap (λ (l : Listing). option_map (with_pieces (all_heads (names_of l))) old) c.listing.ensures)))
