use Rattle.std.proofs.Common.{List, map, ap, subst, ◌∙◌}
use Rattle.run_files.specs.Files.{Put, put_of}
use Rattle.run_files.specs.Listed.{said, names_of}
use Rattle.run_files.specs.declared.listed.HostListing.{HostListing}
use Rattle.net_run.specs.Heads.{all_heads}
use Rattle.net_run.specs.Pieces.{PutsFront}
use Rattle.net_run.proofs.FrontLemmas.{front_none}
use Rattle.net_run.proofs.PieceLemmas.{on_err}
use Rattle.net_run.proofs.heads.put_heads.Goals as goal

pub returns-in-Err-clause-err : goal.returns-in-Err-clause-err
returns-in-Err-clause-err g c = front_none (all_heads (names_of c.args.listing.now)) (g.K.Sink.content c.args.sink.now)

pub returns-in_err-put_pieces-clause-err : goal.returns-in_err-put_pieces-clause-err
returns-in_err-put_pieces-clause-err g c = on_err c.from_residual.result
    (subst (λ (l : List Put). PutsFront l (g.K.Sink.content c.args.sink.now) (g.K.Sink.content c.put_pieces.new.sink))
    (ap (map put_of) c.deref.ensures.value ∙ c.in-Ok.ensures ∙ ap (λ (hosts : List HostListing). all_heads (map said hosts)) c.as_slice.ensures.value) c.in_err-put_pieces.ensures.err)
