use Rattle.std.proofs.Common.{IsSome, ap, sym, ◌∙◌, subst, arith, not}
use Rattle.host_fds.proofs.Slots.{get_descriptors_of, none_from_test}
use Rattle.host_fds.proofs.table.Table.lowest_free.Goals as goal

pub returns-then-is_none-clause-found : goal.returns-then-is_none-clause-found
returns-then-is_none-clause-found c =
    rw (← c.self.view_is)
    (record {
      in_range = omega arith;
      is_free = get_descriptors_of c.self.inside.slots.items c.loop-fd.fd ∙ none_from_test _ (rw (← c.deref-slot-items.ensures.value) (c.is_none.ensures ∙ ap not c.if-is_none.true));
      below = λ lower before. subst IsSome (sym (get_descriptors_of c.self.inside.slots.items lower)) (rw (← c.deref-slot-items.ensures.value) (c.loop-fd.invariant lower before));
    })

pub returns-clause-full : goal.returns-clause-full
returns-clause-full c = λ fd within.
    rw (← c.self.view_is) (subst IsSome (sym (get_descriptors_of c.self.inside.slots.items fd)) (rw (← c.deref-slot-items.ensures.value) (c.loop-fd.invariant fd (omega arith))))
