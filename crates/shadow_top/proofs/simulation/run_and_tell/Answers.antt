use Rattle.std.proofs.Common.{map}
use Rattle.std.specs.String.{string_bytes}
use Rattle.shadow_top.proofs.ShadowLemmas.{outcome_stopped}
use Rattle.shadow_top.proofs.UntouchedLemmas.{ran_untouched, stopped_untouched}
use Rattle.shadow_top.proofs.simulation.run_and_tell.Goals as goal

pub returns-in-Ok-clause-untouched : goal.returns-in-Ok-clause-untouched
returns-in-Ok-clause-untouched g c =
    ran_untouched (g.K.Sink.content c.args.sink.now) (g.K.Sink.content c.run.new.sink) c.in-Ok.status c.in-Ok.ensures.status

pub returns-in-Err-clause-outcome : goal.returns-in-Err-clause-outcome
returns-in-Err-clause-outcome g c =
    outcome_stopped (c.one_shown.ensures, c.one_plan.ensures, c.one_result.ensures.at_most) (map string_bytes c.args.words.now) (g.S.Source.held c.args.source.now) (g.K.Sink.content c.args.sink.now) (g.K.Sink.content c.run.new.sink)
    (g.K.Sink.content c.tell_stop.new.sink) (g.S.Source.faults c.args.source.now) (g.S.Source.faults c.run.new.source) (g.K.Sink.tally c.args.sink.now)
    (g.K.Sink.tally c.run.new.sink) (g.K.Sink.tally c.tell_stop.new.sink) c.tell_stop.result c.in-Err.stop
    c.in-Err.ensures.told c.in-Err.ensures.reads c.in-Err.ensures.writes c.tell_stop.ensures

pub returns-in-Err-clause-untouched : goal.returns-in-Err-clause-untouched
returns-in-Err-clause-untouched g c =
    stopped_untouched (g.K.Sink.content c.args.sink.now) (g.K.Sink.content c.run.new.sink) (g.K.Sink.content c.tell_stop.new.sink) (g.K.Sink.tally c.run.new.sink)
    (g.K.Sink.tally c.tell_stop.new.sink) c.tell_stop.result c.in-Err.stop c.in-Err.ensures.kept c.tell_stop.ensures
