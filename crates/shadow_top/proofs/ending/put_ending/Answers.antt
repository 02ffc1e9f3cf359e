use Rattle.std.proofs.lemmas.Result.{err_from_is_err_and}
use Rattle.shadow_top.proofs.StreamLemmas.{all_told, all_stopped, all_in_part}
use Rattle.shadow_top.proofs.ending.put_ending.Goals as goal

pub returns-in_err-status-clause-told : goal.returns-in_err-status-clause-told
returns-in_err-status-clause-told g c = λ w old at stands.
    (let new = g.K.Sink.content c.put_end.new.sink in
    let p = err_from_is_err_and c.from_residual.result c.from_residual.ensures.1 in
    rw p.1 (all_stopped c.args.is_self_load c.args.streams w old new new c.parts_are_between.ensures c.in_err-status.field-0.0 (c.in_err-status.ensures.told w old at stands)))

pub returns-in_err-put_if_asked-clause-told : goal.returns-in_err-put_if_asked-clause-told
returns-in_err-put_if_asked-clause-told g c = λ w old at stands.
    (let p = err_from_is_err_and c.from_residual-in_err-put_if_asked.result c.from_residual-in_err-put_if_asked.ensures.1 in
    rw p.1
    (all_in_part c.args.is_self_load c.args.streams w old (g.K.Sink.content c.put_end.new.sink) (g.K.Sink.content c.put_if_asked.new.sink) c.parts_are_between.ensures c.in_ok-status.status c.in_err-put_if_asked.field-0.0
    (c.in_ok-status.ensures.told w old at stands) (c.in_err-put_if_asked.ensures.err w at)))

pub returns-clause-told : goal.returns-clause-told
returns-clause-told g c = λ w old at stands.
    all_told c.args.is_self_load c.args.streams w old (g.K.Sink.content c.put_end.new.sink) (g.K.Sink.content c.put_if_asked.new.sink) c.in_ok-status.status
    (c.in_ok-status.ensures.told w old at stands) (c.in_ok-put_if_asked.ensures.ok w at)
