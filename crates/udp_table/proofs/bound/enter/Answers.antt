use Rattle.std.proofs.Common.{sym, ◌∙◌}
use Rattle.std.specs.HashMap.{get}
use Rattle.sim_base.specs.Addresses.{is_same}
use Rattle.number_sets.proofs.PortsCounted.{on_ok}
use Rattle.udp_table.proofs.Found.{put_in}
use Rattle.udp_table.proofs.bound.enter.Goals as goal

pub returns-else-contains_key : goal.returns-else-contains_key
returns-else-contains_key c = λ done old new was is others h.
    put_in (get is_same c.args.bound.now) (get is_same c.insert.new.self) c.in-Some.at c.args.place old new was (is ∙ c.in-Some.is) others
    (sym c.contains_key.ensures ∙ c.if-contains_key.false)
    (on_ok c.insert.result _ (sym c.is_ok.ensures.value ∙ done) c.insert.ensures.updates).0
    h
