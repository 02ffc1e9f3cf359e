use Rattle.std.proofs.Common.{sym, subst, All, Option, arith}
use Rattle.std.proofs.lemmas.Result.{err_from_is_err_and}
use Rattle.run_outside.specs.Sink.{Content}
use Rattle.run_files.specs.Listed.{HasIds, names_of}
use Rattle.host_state.specs.World.{opening_world}
use Rattle.run_files.specs.declared.listed.Listing.{Listing}
use Rattle.shadow_top.proofs.OpenedLemmas.{has_rounds, host_rows_is}
use Rattle.shadow_top.proofs.RunLemmas.{not_run, begins_own, rounds_stopped, run_ended, ended_small}
use Rattle.shadow_top.proofs.simulation.run_noted.Goals as goal

pub overflow_cast-hosts : goal.overflow_cast-hosts
overflow_cast-hosts g c = let count = c.requires.rows.count in let few = c.requires.few in omega (arith, count, few, c.len-hosts.ensures)

pub start-requires-clause-rows : goal.start-requires-clause-rows
start-requires-clause-rows g c = host_rows_is c.args.opened c.requires

pub start-requires-clause-rounds : goal.start-requires-clause-rounds
start-requires-clause-rounds g c = has_rounds c.args.opened c.requires

pub returns-in_err-world-clause-told : goal.returns-in_err-world-clause-told
returns-in_err-world-clause-told g c =
    let p = err_from_is_err_and c.from_residual.result c.from_residual.ensures.1 in
    rw p.1 (not_run c.one_result.ensures.at_least c.one_result.ensures.opening c.parts_are_between.ensures c.args.opened (g.K.Sink.content c.args.sink.now) p.0 c.requires)

pub put_run-requires-clause-stands : goal.put_run-requires-clause-stands
put_run-requires-clause-stands g c κs lives = (opening_world c.args.opened.rows.items, c.in_ok-world.ensures.stands)

pub returns-in_err-put_run-clause-told : goal.returns-in_err-put_run-clause-told
returns-in_err-put_run-clause-told g c =
    let opened = c.args.opened in
    let world = c.in_ok-world.world in
    let old : Option Content = g.K.Sink.content c.args.sink.now in
    let told = c.in_err-put_run.ensures.told opened.rows.items c.in_ok-world.ensures.stands (begins_own opened world c.requires c.in_ok-world.ensures.stands c.in_ok-world.ensures.ids) in
    let p = err_from_is_err_and c.from_residual-in_err-put_run.result c.from_residual-in_err-put_run.ensures.1 in
    rw p.1 (rounds_stopped c.parts_are_between.ensures opened world c.in_ok-world.ensures.net old (g.K.Sink.content c.put_run.new.sink) p.0 told)

pub put_ending-requires-clause-stands : goal.put_ending-requires-clause-stands
put_ending-requires-clause-stands g c =
    let opened = c.args.opened in
    let all = c.in_ok-put_run.ensures.told opened.rows.items c.in_ok-world.ensures.stands (begins_own opened c.in_ok-world.world c.requires c.in_ok-world.ensures.stands c.in_ok-world.ensures.ids) in
    (all.world, all.at)

pub put_ending-requires-clause-ids : goal.put_ending-requires-clause-ids
put_ending-requires-clause-ids g c = subst (λ (l : Listing). All HasIds (names_of l)) (sym c.in_ok-put_run.ensures.listing) c.in_ok-world.ensures.ids

pub returns-clause-told : goal.returns-clause-told
returns-clause-told g c =
    let opened = c.args.opened in
    let world = c.in_ok-world.world in
    let old : Option Content = g.K.Sink.content c.args.sink.now in
    let all = c.in_ok-put_run.ensures.told opened.rows.items c.in_ok-world.ensures.stands (begins_own opened world c.requires c.in_ok-world.ensures.stands c.in_ok-world.ensures.ids) in
    run_ended c.parts_are_between.ensures opened world c.in_ok-world.ensures.net old c.put_run.new.world (g.K.Sink.content c.put_run.new.sink) (g.K.Sink.content c.put_ending.new.sink) all c.put_ending.result
    (c.put_ending.ensures.told all.world old all.at all.stands)

pub returns-clause-status : goal.returns-clause-status
returns-clause-status g c =
    let opened = c.args.opened in
    let world = c.in_ok-world.world in
    let old : Option Content = g.K.Sink.content c.args.sink.now in
    let all = c.in_ok-put_run.ensures.told opened.rows.items c.in_ok-world.ensures.stands (begins_own opened world c.requires c.in_ok-world.ensures.stands c.in_ok-world.ensures.ids) in
    ended_small opened.is_self_load opened.streams all.world old (g.K.Sink.content c.put_ending.new.sink) c.put_ending.result (c.put_ending.ensures.told all.world old all.at all.stands)
