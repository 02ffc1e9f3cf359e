use Rattle.std.proofs.Common.{List, option_map, ◌∙◌, refl}
use Rattle.std.proofs.lemmas.Result.{err_from_is_err_and}
use Rattle.run_files.specs.Files.{Put}
use Rattle.net_run.specs.Pieces.{with_pieces}
use Rattle.shadow_top.proofs.GrowLemmas.{front_none}
use Rattle.shadow_top.proofs.RoundLemmas.{come_start, come_further, come_part, gathered_left, gathered_more, grown_start, grown_further, rounds_told}
use Rattle.shadow_top.specs.inside.Rounds.{gained_by}
use Rattle.shadow_top.proofs.rounds.put_rounds.Goals as goal

pub rounds-init : goal.rounds-init
rounds-init g c =
    let now = g.K.Sink.content c.args.sink.now in
    record {
      at = c.requires.stands;
      come = λ w old at stands. come_start c.args.world.now w old now c.new-gathered.result c.new-gathered.ensures (c.rounds_reach_the_result.ensures.begins c.args.world.now.net w) at stands;
      grown = λ w old stands. grown_start c.parts_are_between.ensures w old now stands;
      listing = refl;
      faults = refl;
      errors = refl;
    }

pub rounds-preserved : goal.rounds-preserved
rounds-preserved g c =
    let i = c.rounds.invariant in
    let e = c.gather_next.new.world in
    let before : List Put = c.rounds.gathered in
    let after : List Put = c.gather_next.new.gathered in
    let now = g.K.Sink.content c.rounds.sink in
    let new = g.K.Sink.content c.put_if_worth.new.sink in
    let told = c.in_ok-gather_next.ensures.gathered in
    let put = c.in_ok-put_if_worth.ensures.ok in
    let here = told i.at.0 i.at.1 in
    record {
      at = (here.0, here.2.turns.stands);
      come = λ w old at stands.
          (let come = i.come w old at stands in
          let r = told come.world come.at in
          come_further c.args.world.now c.rounds.world w old (option_map (with_pieces before) now) come c.rounds_reach_the_result.ensures.goes_on c.runs_grow.ensures.goes_on e c.args.workers r.0 r.1
          c.in_ok-gather_next.ensures.net r.2 (option_map (with_pieces c.put_if_worth.new.self) new) (gathered_left before (gained_by r.1) after c.put_if_worth.new.self now new put.2 r.3));
      grown = λ w old stands. grown_further c.parts_are_between.ensures put.0 old now new (i.grown w old stands) put.1;
      listing = c.in_ok-gather_next.ensures.listing ∙ i.listing;
      faults = c.in_ok-put_if_worth.ensures.count.0 ∙ i.faults;
      errors = c.in_ok-put_if_worth.ensures.count.1 ∙ i.errors;
    }

pub rounds-smaller : goal.rounds-smaller
rounds-smaller g c =
    let i = c.rounds.invariant in
    let here = c.in_ok-gather_next.ensures.gathered i.at.0 i.at.1 in
    c.rounds_reach_the_result.ensures.gets_on i.at.0 here.0 c.rounds.world c.gather_next.new.world c.args.workers here.1 i.at.1 here.2 c.in_ok-gather_next.ensures.net (c.finished.ensures.unfinished.0 c.rounds-test.true)

pub returns-in_err-gather_next-clause-told : goal.returns-in_err-gather_next-clause-told
returns-in_err-gather_next-clause-told g c = λ w old at stands.
    (let i = c.rounds.invariant in
    let now = g.K.Sink.content c.rounds.sink in
    let p = err_from_is_err_and c.from_residual.result c.from_residual.ensures.1 in
    rw p.1 (come_part c.parts_are_between.ensures c.args.world.now c.rounds.world w old now c.rounds.gathered (i.come w old at stands) (i.grown w old stands)
    c.rounds_reach_the_result.ensures.extended c.runs_grow.ensures.front now (front_none c.rounds.gathered now)))

pub returns-in_err-put_if_worth-clause-told : goal.returns-in_err-put_if_worth-clause-told
returns-in_err-put_if_worth-clause-told g c = λ w old at stands.
    (let i = c.rounds.invariant in
    let e = c.gather_next.new.world in
    let before : List Put = c.rounds.gathered in
    let after : List Put = c.gather_next.new.gathered in
    let now = g.K.Sink.content c.rounds.sink in
    let come = i.come w old at stands in
    let r = c.in_ok-gather_next.ensures.gathered come.world come.at in
    let further = come_further c.args.world.now c.rounds.world w old (option_map (with_pieces before) now) come c.rounds_reach_the_result.ensures.goes_on c.runs_grow.ensures.goes_on e c.args.workers r.0 r.1
    c.in_ok-gather_next.ensures.net r.2 (option_map (with_pieces after) now) (gathered_more before (gained_by r.1) after r.3 now) in
    let p = err_from_is_err_and c.from_residual-in_err-put_if_worth.result c.from_residual-in_err-put_if_worth.ensures.1 in
    rw p.1 (come_part c.parts_are_between.ensures c.args.world.now e w old now after further (i.grown w old stands)
    c.rounds_reach_the_result.ensures.extended c.runs_grow.ensures.front (g.K.Sink.content c.put_if_worth.new.sink) c.in_err-put_if_worth.ensures.err))

pub returns-clause-told : goal.returns-clause-told
returns-clause-told g c = λ w old at stands.
    (let i = c.rounds.invariant in
    rounds_told c.parts_are_between.ensures c.args.world.now c.rounds.world w old (g.K.Sink.content c.rounds.sink) c.rounds.gathered (i.come w old at stands) (i.grown w old stands)
    c.rounds_reach_the_result.ensures.finishes c.rounds_reach_the_result.ensures.extended c.runs_grow.ensures.front (c.finished.ensures.finished.0 c.rounds-test.false)
    (g.K.Sink.content c.put.new.sink) c.put.result c.put.ensures.ok c.put.ensures.err)
