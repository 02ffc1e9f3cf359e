use Rattle.std.proofs.Common.{Option, Some, None, MatchOption, refl}
use Rattle.steal_workers.proofs.handle.Handle.take.Goals as goal

also_none : {X : Type 0} (o : Option X) (A B : Type 0) (Q : X → Type 0) → B → MatchOption o A Q → MatchOption o (A × B) Q
also_none None A B Q b h = (h, b)
also_none (Some x) A B Q b h = h

pub returns-in-Own-clause-took : goal.returns-in-Own-clause-took
returns-in-Own-clause-took g c = rw c.in-Own.is c.pop.ensures.took

pub returns-in-Other-clause-took : goal.returns-in-Other-clause-took
returns-in-Other-clause-took g c = rw c.in-Other.is (also_none c.steal.result _ _ _ refl c.steal.ensures.took)
