use Rattle.std.proofs.Common.{◌≡◌, Bool, List, option_map, sym, subst}
use Rattle.std.specs.Prelude.{OnOk, OnErr}
use Rattle.run_files.specs.Files.{Put}
use Rattle.net_run.specs.Pieces.{with_pieces, PutsFront}
use Rattle.net_run.specs.Streams.{stream_puts}
use Rattle.shadow_top.proofs.GrowLemmas.{told_nothing, front_none}
use Rattle.shadow_top.proofs.StreamLemmas.{lines_are}
use Rattle.shadow_top.proofs.streams.put_if_asked.Goals as goal

pub returns-then-not-streams-clause-ok : goal.returns-then-not-streams-clause-ok
returns-then-not-streams-clause-ok g c = λ w at.
    (let old = g.K.Sink.content c.args.sink.now in subst (λ (b : Bool). old ≡ option_map (with_pieces (stream_puts b w)) old) (sym c.if-not-streams.true) (sym (told_nothing old)))

pub returns-in-Ok-clause-ok : goal.returns-in-Ok-clause-ok
returns-in-Ok-clause-ok g c = λ w at.
    (let old = g.K.Sink.content c.args.sink.now in
    let new = g.K.Sink.content c.put_streams.new.sink in
    subst (λ (ps : List Put). OnOk c.put_streams.result (new ≡ option_map (with_pieces ps) old))
    (lines_are c.args.streams c.if-not-streams.false c.args.world.now w at c.listing.result.now c.in-Ok.told.items c.as_slice.result.now c.listing.ensures c.as_slice.ensures.value (c.in-Ok.ensures w at))
    c.put_streams.ensures.ok)

pub returns-in-Ok-clause-err : goal.returns-in-Ok-clause-err
returns-in-Ok-clause-err g c = λ w at.
    (let old = g.K.Sink.content c.args.sink.now in
    let new = g.K.Sink.content c.put_streams.new.sink in
    subst (λ (ps : List Put). OnErr c.put_streams.result (PutsFront ps old new))
    (lines_are c.args.streams c.if-not-streams.false c.args.world.now w at c.listing.result.now c.in-Ok.told.items c.as_slice.result.now c.listing.ensures c.as_slice.ensures.value (c.in-Ok.ensures w at))
    c.put_streams.ensures.err)

pub returns-in-Err-clause-err : goal.returns-in-Err-clause-err
returns-in-Err-clause-err g c = λ w at. front_none (stream_puts c.args.streams w) (g.K.Sink.content c.args.sink.now)
