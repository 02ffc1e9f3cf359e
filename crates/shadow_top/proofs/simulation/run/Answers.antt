use Rattle.std.proofs.Common.{map, rules}
use Rattle.std.specs.String.{string_bytes}
use Rattle.shadow_top.proofs.ShadowLemmas.{runs_carried, reads_carried, writes_carried, small_carried}
use Rattle.shadow_top.proofs.UntouchedLemmas.{kept_carried, kept_stopped}
use Rattle.shadow_top.proofs.simulation.run.Goals as goal

pub returns-in-Ok-clause-told : goal.returns-in-Ok-clause-told
returns-in-Ok-clause-told g c = rw c.ended.ensures
    (runs_carried (c.one_shown.ensures, c.one_plan.ensures, c.one_result.ensures.at_most) (map string_bytes c.args.words.now) (g.S.Source.held c.args.source.now) (g.K.Sink.content c.args.sink.now) (g.K.Sink.content c.carry_out.new.sink)
    c.in-Ok.planned c.carry_out.result c.in-Ok.ensures.told c.carry_out.ensures.told)

pub returns-in-Ok-clause-kept : goal.returns-in-Ok-clause-kept
returns-in-Ok-clause-kept g c = rw c.ended.ensures
    (kept_carried (g.K.Sink.content c.args.sink.now) (g.K.Sink.content c.carry_out.new.sink) c.in-Ok.planned c.carry_out.result c.carry_out.ensures.told)

pub returns-in-Ok-clause-status : goal.returns-in-Ok-clause-status
returns-in-Ok-clause-status g c = rw c.ended.ensures (small_carried c.carry_out.result c.carry_out.ensures.status)

pub returns-in-Ok-clause-reads : goal.returns-in-Ok-clause-reads
returns-in-Ok-clause-reads g c = rw c.ended.ensures
    (reads_carried c.carry_out.result (g.S.Source.faults c.args.source.now) (g.S.Source.faults c.read_plan.new.source) c.in-Ok.ensures.count)

pub returns-in-Ok-clause-writes : goal.returns-in-Ok-clause-writes
returns-in-Ok-clause-writes g c = rw c.ended.ensures
    (writes_carried c.carry_out.result (g.K.Sink.tally c.args.sink.now) (g.K.Sink.tally c.carry_out.new.sink) c.carry_out.ensures.count)

pub returns-in-Err-clause-kept : goal.returns-in-Err-clause-kept
returns-in-Err-clause-kept g c =
    search (rules, kept_stopped (g.K.Sink.content c.args.sink.now) c.in-Err.stop)
