use Rattle.std.proofs.Common.{◌++◌, ◌∷◌, [], List, Option, None, ap, ◌∙◌}
use Rattle.std.proofs.lemmas.List.{replicate_more}
use Rattle.round_lookahead.specs.declared.world.backs.Back.{Back}
use Rattle.round_lookahead.proofs.world.backs.empty_slots.Goals as goal

pub loop-slot-preserved : goal.loop-slot-preserved
loop-slot-preserved c = c.in_ok-push.ensures.items ∙ ap (λ (l : List (Option Back)). l ++ None ∷ []) c.loop-slot.invariant ∙ replicate_more c.loop-slot._slot None
