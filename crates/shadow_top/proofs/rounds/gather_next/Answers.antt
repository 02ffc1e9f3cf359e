use Rattle.std.proofs.lemmas.Result.{on_ok_weaker}
use Rattle.shadow_top.proofs.rounds.gather_next.Goals as goal

pub returns-clause-gathered : goal.returns-clause-gathered
returns-clause-gathered g c =
    on_ok_weaker c.add.result (λ is. λ w at. (let r = c.in_ok-files.ensures.round w at in (r.0, c.in_ok-files.field-0, r.1, is))) c.add.ensures
