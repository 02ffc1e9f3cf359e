use Rattle.std.proofs.Common.{map}
use Rattle.std.specs.String.{string_bytes}
use Rattle.shadow_top.proofs.ShadowLemmas.{headline_of, quiet_of}
use Rattle.shadow_top.proofs.simulation.shadow.Goals as goal

pub returns-clause-headline : goal.returns-clause-headline
returns-clause-headline g c =
    headline_of (map string_bytes c.args.words.now) (g.S.Source.held c.args.source.now) (g.K.Sink.content c.args.sink.now) (g.K.Sink.content c.run_and_tell.new.sink)
    (g.S.Source.faults c.args.source.now) (g.S.Source.faults c.run_and_tell.new.source) (g.K.Sink.tally c.args.sink.now) (g.K.Sink.tally c.run_and_tell.new.sink)
    c.run_and_tell.result c.run_and_tell.ensures.outcome

pub returns-clause-quiet_after_error : goal.returns-clause-quiet_after_error
returns-clause-quiet_after_error g c =
    quiet_of (map string_bytes c.args.words.now) (g.S.Source.held c.args.source.now) (g.K.Sink.content c.args.sink.now) (g.K.Sink.content c.run_and_tell.new.sink)
    (g.S.Source.faults c.args.source.now) (g.S.Source.faults c.run_and_tell.new.source) (g.K.Sink.tally c.args.sink.now) (g.K.Sink.tally c.run_and_tell.new.sink)
    c.run_and_tell.result c.run_and_tell.ensures.outcome
