-- laws of lists of events
use Rattle.std.specs.Prelude.{Bool, true, false, List, [], ◌∷◌, if◌then◌else◌}
use Rattle.std.proofs.lemmas.List.Sorted.{IsPermutation-refl, IsPermutation-trans, IsPermutation-cons, IsPermutation-insert}
use Rattle.std.specs.List.Sorted.{IsPermutation}
use Rattle.std.specs.Ordering.{is_lt}
use Rattle.sim_base.specs.declared.event.Event.{Event}
use Rattle.sim_base.specs.Key.{key_order}
use Rattle.event_order.specs.Events.{with_event}

placed : (event next : Event) (events more : List Event) → IsPermutation (event ∷ events) more
    → (first : Bool) → IsPermutation (event ∷ next ∷ events) (if first then event ∷ next ∷ events else next ∷ more)
placed event next events more h true = IsPermutation-refl _
placed event next events more h false =
    IsPermutation-trans _ _ _ (IsPermutation-insert (next ∷ events) 1 event) (IsPermutation-cons next _ _ h)

-- an event more, and no other change but of places
pub with_event_IsPermutation : (event : Event) (events : List Event) → IsPermutation (event ∷ events) (with_event event events)
with_event_IsPermutation event [] = IsPermutation-refl _
with_event_IsPermutation event (next ∷ events) =
    placed event next events (with_event event events) (with_event_IsPermutation event events) (is_lt (key_order event.key next.key))
