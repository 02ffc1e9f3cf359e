use Rattle.std.proofs.Common.{Some, sym, ap, ◌∙◌}
use Rattle.std.specs.HashMap.{get}
use Rattle.host_sockets.specs.declared.tables.Ends.{Ends}
use Rattle.host_sockets.specs.inside.Ends.{same_ends}
use Rattle.number_sets.proofs.PortsCounted.{on_ok}
use Rattle.host_sockets.proofs.EndsFound.{entry_stays_by}
use Rattle.host_sockets.proofs.tables.enter.Goals as goal

pub returns-clause-others : goal.returns-clause-others
returns-clause-others c = λ ok k sock s q apart at stands live was.
    entry_stays_by (get same_ends c.args.places.now) (get same_ends c.insert.new.self) c.args.ends q k
    (on_ok c.insert.result _ (sym c.is_ok.ensures.value ∙ ok) c.insert.ensures.updates).2
    (λ same. c.is_anothers.ensures c.if-is_anothers.false k sock s apart at stands (live ∙ ap (λ (x : Ends). Some x) (sym same)) (ap (get same_ends c.args.places.now) same ∙ was))
    was
