use Rattle.std.proofs.Common.{subst}
use Rattle.udp_table.specs.declared.index.Index.{Index}
use Rattle.udp_table.specs.inside.Indexing.{Indexes}
use Rattle.udp_table.proofs.Found.{some_is}
use Rattle.udp_table.proofs.table.follow.Goals as goal

pub returns-else-not-change : goal.returns-else-not-change
returns-else-not-change c = λ old new changes h index is.
    subst (λ (kept : Index). Indexes kept new) (some_is c.change.new.self index is) (c.change.ensures c.if-not-change.false old new changes (h c.in-Some.kept c.in-Some.is))
